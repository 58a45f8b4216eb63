-- Where the reader stands, and what can come there. Not part of what a caller is promised:
-- proofs/Machine.antt ties it to the legal lists of Grammar.antt.
use Rattle.std.specs.Prelude.{ℕ, zero, suc, Bool, false, cond, nat_eq, List, [], ◌∷◌, Option, Some, None}
use Rattle.dimacs_text.specs.declared.form.Section.{Section}
use Rattle.dimacs_text.specs.declared.form.Section.TheVariants.{Problem, Sources, Pairs, Added}
use Rattle.dimacs_text.specs.declared.form.Item.{Item}
use Rattle.dimacs_text.specs.declared.form.Item.TheVariants.{Arc, Source, Pair}
use Rattle.dimacs_text.specs.declared.fault.LineKind.{LineKind}
use Rattle.dimacs_text.specs.declared.fault.LineKind.TheVariants.{Misplaced, TooMany, TooFew}
use Rattle.dimacs_text.specs.declared.stage.Stage.{Stage}
use Rattle.dimacs_text.specs.declared.stage.Stage.TheVariants.{Start, Within}
use Rattle.dimacs_text.specs.declared.form.Form.{Form}
use Rattle.dimacs_text.specs.declared.form.Form.TheVariants.{Head, Counted}
use Rattle.dimacs_text.specs.Grammar.{Token, opens, adds, item_of, place, may_follow, form_of_token}

-- items are compared by their numbers
abbrev pub item_number : Item → ℕ
item_number Arc = 0
item_number Source = 1
item_number Pair = 2

abbrev pub same_item : Item → Item → Bool
same_item i j = nat_eq (item_number i) (item_number j)

-- the section that the reader is in
abbrev pub phase_of : Stage → Option Section
phase_of Start = None
phase_of (Within s j) = Some s

-- whether a line of the form can stand there with some counts
abbrev pub can_come : Option Section → Form → Bool
can_come None (Head next) = nat_eq (place next) 0
can_come None (Counted item) = false
can_come (Some s) (Head next) = may_follow s next
can_come (Some s) (Counted item) = same_item (item_of s) item

-- what is wrong with a form that can stand there with some counts, where this many items are missing
abbrev pub count_fault : Form → ℕ → Option LineKind
count_fault (Head next) zero = None
count_fault (Head next) (suc j) = Some TooFew
count_fault (Counted item) zero = Some TooMany
count_fault (Counted item) (suc j) = None

abbrev pub missing_at : Stage → ℕ
missing_at Start = 0
missing_at (Within s j) = j

-- what is wrong with a token there
abbrev pub misfit_at : Stage → Form → Option LineKind
misfit_at a form = cond (can_come (phase_of a) form) (count_fault form (missing_at a)) (Some Misplaced)

-- how many lines have to come at least before the graph is whole: the problem line, and then one for each arc
abbrev pub lines_missing : Stage → ℕ
lines_missing Start = 1
lines_missing (Within Problem j) = j
lines_missing (Within Sources j) = 0
lines_missing (Within Pairs j) = 0
lines_missing (Within Added j) = 0

abbrev pub one_less : Stage → Stage
one_less Start = Start
one_less (Within s zero) = Within s zero
one_less (Within s (suc j)) = Within s j

-- where the reader is after a token that fits
abbrev pub next_at : Stage → Token → Stage
next_at a (opens next k) = Within next k
next_at a (adds item) = one_less a

abbrev pub unless_wrong : Option LineKind → Option Stage → Option Stage
unless_wrong None b = b
unless_wrong (Some kind) b = None

abbrev pub run : Stage → List Token → Option Stage
run a [] = Some a
run a (m ∷ ms) = unless_wrong (misfit_at a (form_of_token m)) (run (next_at a m) ms)
