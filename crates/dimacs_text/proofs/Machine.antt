-- A machine that reads tokens one by one, and what it says of the legal lists.
use Rattle.std.proofs.Common.{◌≡◌, ℕ, zero, suc, Bool, true, false, List, [], ◌∷◌, ◌++◌, map, flat_map, replicate}
use Rattle.std.proofs.Common.{Option, Some, None, refl, sym, ap, ap₂, inl, inr, subst, ◌∙◌, append_assoc, append-nil}
use Rattle.std.proofs.Common.{cond, eqb, eq-eqb}
use Rattle.std.proofs.lemmas.Bool.{eqb-true}
use Rattle.std.proofs.lemmas.List.{map-append}
use Rattle.dimacs_text.specs.declared.form.Section.{Section}
use Rattle.dimacs_text.specs.declared.form.Section.TheVariants.{Problem}
use Rattle.dimacs_text.specs.declared.form.Item.{Item}
use Rattle.dimacs_text.specs.declared.form.Item.TheVariants.{Arc, Source, Pair}
use Rattle.dimacs_text.specs.declared.form.Form.{Form}
use Rattle.dimacs_text.specs.declared.form.Form.TheVariants.{Head, Counted}
use Rattle.dimacs_text.specs.declared.fault.LineKind.{LineKind}
use Rattle.dimacs_text.specs.declared.fault.LineKind.TheVariants.{Misplaced, TooMany, TooFew}
use Rattle.dimacs_text.specs.declared.stage.Stage.{Stage}
use Rattle.dimacs_text.specs.declared.stage.Stage.TheVariants.{Start, Within}
use Rattle.dimacs_text.specs.reader.Machine.{phase_of, item_number, same_item, can_come, count_fault, missing_at}
use Rattle.dimacs_text.specs.reader.Machine.{misfit_at, next_at, unless_wrong, run}
use Rattle.dimacs_text.specs.Grammar.{Token, opens, adds, Part, item_of, place, may_follow, tokens_of, form_of_token}
use Rattle.dimacs_text.specs.Grammar.{AreInTurn, IsLegal, BeginsLegal, FitsSomeCounts, IsMisfit, MisfitKind, excess}

-- items with one number are one item
abbrev item_at : ℕ → Item
item_at zero = Arc
item_at (suc zero) = Source
item_at (suc (suc n)) = Pair

same_item_eq : (i j : Item) → same_item i j ≡ true → i ≡ j
same_item_eq i j e = sym (back i) ∙ ap (λ n. item_at n) (eqb-true (item_number i) (item_number j) e) ∙ back j
  where
    back : (k : Item) → item_at (item_number k) ≡ k
    back Arc = refl
    back Source = refl
    back Pair = refl

-- the machine goes on where nothing is wrong: the form can come there, and the count is right
pub goes : (o : Option LineKind) (x : Option Stage) (b : Stage) → unless_wrong o x ≡ Some b → (o ≡ None) × (x ≡ Some b)
goes None x b e = (refl, e)
goes (Some k) x b e = absurd (cc)

can_fit : (ok : Bool) (o : Option LineKind) → cond ok o (Some Misplaced) ≡ None → (ok ≡ true) × (o ≡ None)
can_fit true o e = (refl, e)
can_fit false o e = absurd (cc)

-- these tokens complete a legal list from there
abbrev pub Completes : Stage → List Token → Type 0
Completes Start ms = IsLegal ms
Completes (Within s j) ms =
    (ps : List Part) × AreInTurn s ps × (ms ≡ replicate j (adds (item_of s)) ++ flat_map tokens_of ps)

-- a token that fits leads to a legal list
step_leads : (a : Stage) (m : Token) (rest : List Token)
    → misfit_at a (form_of_token m) ≡ None → Completes (next_at a m) rest
    → Completes a (m ∷ rest)
unfolding IsLegal
step_leads Start (opens t k) rest e (ps, turn, eq) = (
  record { section = t; count = k } ∷ ps,
  (eqb-true (place t) 0 (can_fit (eqb (place t) 0) None e).0, turn),
  ap (λ l. opens t k ∷ l) eq,
)
step_leads (Within s zero) (opens t k) rest e (ps, turn, eq) = (
  record { section = t; count = k } ∷ ps,
  ((can_fit (may_follow s t) None e).0, turn),
  ap (λ l. opens t k ∷ l) eq,
)
step_leads (Within s (suc j)) (opens t k) rest e c =
    absurd (let few = (can_fit (may_follow s t) (Some TooFew) e).1 in cc)
step_leads Start (adds i) rest e c = absurd (cc)
step_leads (Within s zero) (adds i) rest e c =
    absurd (let many = (can_fit (same_item (item_of s) i) (Some TooMany) e).1 in cc)
step_leads (Within s (suc j)) (adds i) rest e (ps, turn, eq) =
    let same = same_item_eq (item_of s) i (can_fit (same_item (item_of s) i) None e).0 in
    (ps, turn, ap₂ (λ x l. adds x ∷ l) (sym same) eq)

-- tokens that the machine reads lead on to what completes a legal list
pub run_leads : (ms : List Token) (a b : Stage) (rest : List Token)
    → run a ms ≡ Some b → Completes b rest
    → Completes a (ms ++ rest)
run_leads [] a b rest e c = let same : b ≡ a = cc in subst (λ (x : Stage). Completes x rest) same c
run_leads (m ∷ ms) a b rest e c =
    let on = goes (misfit_at a (form_of_token m)) (run (next_at a m) ms) b e in
    step_leads a m (ms ++ rest) on.0 (run_leads ms (next_at a m) b rest on.1 c)

-- the machine reads a legal list to its end
pub items_run : (s : Section) (j : ℕ) (rest : List Token)
    → run (Within s j) (replicate j (adds (item_of s)) ++ rest) ≡ run (Within s 0) rest
items_run s zero rest = refl
items_run s (suc j) rest =
    let n = item_number (item_of s) in
    rw (eq-eqb n n refl) (items_run s j rest)

parts_run : (ps : List Part) (s : Section)
    → AreInTurn s ps
    → (t : Section) × (run (Within s 0) (flat_map tokens_of ps) ≡ Some (Within t 0))
parts_run [] s turn = (s, refl)
parts_run (p ∷ ps) s turn =
    let later = parts_run ps p.section turn.1 in
    let may : may_follow s p.section ≡ true = turn.0 in
    (later.0, rw may (items_run p.section p.count (flat_map tokens_of ps) ∙ later.1))

pub legal_runs : (ms : List Token) → IsLegal ms → (t : Section) × (run Start ms ≡ Some (Within t 0))
unfolding IsLegal
legal_runs ms ([], bad, e) = absurd bad
legal_runs ms (p ∷ ps, order, e) =
    let later = parts_run ps p.section order.1 in (
      later.0,
      ap (λ l. run Start l) e
          ∙ rw (eq-eqb (place p.section) 0 order.0)
          (items_run p.section p.count (flat_map tokens_of ps) ∙ later.1),
    )

-- what was read before counts by where it led to
pub run-append : (ms : List Token) (a b : Stage) (rest : List Token) → run a ms ≡ Some b
    → run a (ms ++ rest) ≡ run b rest
run-append [] a b rest e = let same : a ≡ b = cc in ap (λ x. run x rest) same
run-append (m ∷ ms) a b rest e =
    let on = goes (misfit_at a (form_of_token m)) (run (next_at a m) ms) b e in
    ap (λ o. unless_wrong o (run (next_at a m) (ms ++ rest))) on.0 ∙ run-append ms (next_at a m) b rest on.1

completion : (b : Stage) → (rest : List Token) × Completes b rest
unfolding IsLegal
completion Start = (opens Problem 0 ∷ [], (record { section = Problem; count = 0 } ∷ [], (refl, tt), refl))
completion (Within s j) = (replicate j (adds (item_of s)), ([], tt, sym (append-nil (replicate j (adds (item_of s))))))

-- some legal list begins with the tokens that the machine reads
pub run_begins : (ms : List Token) (b : Stage) → run Start ms ≡ Some b → BeginsLegal ms
unfolding BeginsLegal
run_begins ms b e = let c = completion b in (c.0, run_leads ms Start b c.0 e c.1)

-- no legal list begins with the tokens that the machine can't read
stuck : (ms : List Token) (b : Stage) (m : Token) (k : LineKind)
    → run Start ms ≡ Some b → misfit_at b (form_of_token m) ≡ Some k → BeginsLegal (ms ++ m ∷ [])
    → ⊥
unfolding BeginsLegal
stuck ms b m k e w (more, legal) =
    let ends : run Start ((ms ++ m ∷ []) ++ more) ≡ None =
    rw append_assoc (run-append ms Start b (m ∷ more) e ∙ (rw w refl)) in
    let runs = legal_runs ((ms ++ m ∷ []) ++ more) legal in
    let r1 = runs.1 in cc

-- a text that is complete there is legal, and no other is
pub complete : (ms : List Token) (s : Section) → run Start ms ≡ Some (Within s 0) → IsLegal ms
complete ms s e = rw (← append-nil ms) (run_leads ms Start (Within s 0) [] e ([], tt, refl))

-- what forms alone allow
abbrev pub phase_after : Option Section → Form → Option Section
phase_after p (Head next) = Some next
phase_after p (Counted item) = p

abbrev pub allowed : Option Section → List Form → Option (Option Section)
allowed p [] = Some p
allowed p (f ∷ fs) = cond (can_come p f) (allowed (phase_after p f) fs) None

pub allowed_cases : {A : Type 0} (b : Bool) (x : Option A) (q : A) → cond b x None ≡ Some q → (b ≡ true) × (x ≡ Some q)
allowed_cases true x q e = (refl, e)
allowed_cases false x q e = absurd (cc)

allowed-append : (fs gs : List Form) (p q : Option Section)
    → allowed p fs ≡ Some q
    → allowed p (fs ++ gs) ≡ allowed q gs
allowed-append [] gs p q e = let same : p ≡ q = cc in ap (λ x. allowed x gs) same
allowed-append (f ∷ fs) gs p q e =
    let both = allowed_cases (can_come p f) (allowed (phase_after p f) fs) q e in
    rw both.0 (allowed-append fs gs (phase_after p f) q both.1)

-- the forms of tokens that the machine reads are allowed
phase-next : (a : Stage) (m : Token) → phase_of (next_at a m) ≡ phase_after (phase_of a) (form_of_token m)
phase-next a (opens t k) = refl
phase-next Start (adds i) = refl
phase-next (Within s zero) (adds i) = refl
phase-next (Within s (suc j)) (adds i) = refl

pub run_allowed : (ms : List Token) (a b : Stage)
    → run a ms ≡ Some b
    → allowed (phase_of a) (map form_of_token ms) ≡ Some (phase_of b)
run_allowed [] a b e = let same : a ≡ b = cc in ap (λ x. Some (phase_of x)) same
run_allowed (m ∷ ms) a b e =
    let on = goes (misfit_at a (form_of_token m)) (run (next_at a m) ms) b e in
    let fit =
    can_fit (can_come (phase_of a) (form_of_token m)) (count_fault (form_of_token m) (missing_at a)) on.0 in
    let later = run_allowed ms (next_at a m) b on.1 in
    let same = phase-next a m in
    rw fit.0 (rw (← same) later)

-- forms that are allowed are read where each head counts the items after it
abbrev items_ahead : List Form → ℕ
items_ahead [] = 0
items_ahead (Head t ∷ fs) = 0
items_ahead (Counted i ∷ fs) = suc (items_ahead fs)

abbrev with_counts : List Form → List Token
with_counts [] = []
with_counts (Head t ∷ fs) = opens t (items_ahead fs) ∷ with_counts fs
with_counts (Counted i ∷ fs) = adds i ∷ with_counts fs

forms_with_counts : (fs : List Form) → map form_of_token (with_counts fs) ≡ fs
forms_with_counts [] = refl
forms_with_counts (Head t ∷ fs) = ap (λ l. Head t ∷ l) (forms_with_counts fs)
forms_with_counts (Counted i ∷ fs) = ap (λ l. Counted i ∷ l) (forms_with_counts fs)

abbrev at_phase : Option Section → ℕ → Stage
at_phase None j = Start
at_phase (Some s) j = Within s j

allowed_runs : (fs : List Form) (p q : Option Section)
    → allowed p fs ≡ Some q
    → run (at_phase p (items_ahead fs)) (with_counts fs) ≡ Some (at_phase q 0)
allowed_runs [] p q e = let same : p ≡ q = cc in ap (λ x. Some (at_phase x 0)) same
allowed_runs (Head t ∷ fs) None q e =
    let both = allowed_cases (can_come None (Head t)) (allowed (Some t) fs) q e in
    rw both.0 (allowed_runs fs (Some t) q both.1)
allowed_runs (Head t ∷ fs) (Some s) q e =
    let both = allowed_cases (can_come (Some s) (Head t)) (allowed (Some t) fs) q e in
    rw both.0 (allowed_runs fs (Some t) q both.1)
allowed_runs (Counted i ∷ fs) None q e = absurd (cc)
allowed_runs (Counted i ∷ fs) (Some s) q e =
    let both = allowed_cases (can_come (Some s) (Counted i)) (allowed (Some s) fs) q e in
    rw both.0 (allowed_runs fs (Some s) q both.1)

-- a form that can come fits with some counts
fits : (ms : List Token) (b : Stage) (m : Token)
    → run Start ms ≡ Some b → can_come (phase_of b) (form_of_token m) ≡ true
    → FitsSomeCounts (ms ++ m ∷ [])
unfolding FitsSomeCounts
fits ms b m e ok =
    let fs = map form_of_token (ms ++ m ∷ []) in
    let end = phase_after (phase_of b) (form_of_token m) in
    let all : allowed None fs ≡ Some end =
    ap (λ l. allowed None l) (map-append form_of_token ms (m ∷ []))
    ∙ allowed-append (map form_of_token ms) (form_of_token m ∷ []) None (phase_of b) (run_allowed ms Start b e)
    ∙ rw ok refl in
    (with_counts fs, forms_with_counts fs, run_begins (with_counts fs) (at_phase end 0) (allowed_runs fs None end all))

-- a form that can't come fits with no counts
fits_not : (ms : List Token) (b : Stage) (m : Token)
    → run Start ms ≡ Some b → can_come (phase_of b) (form_of_token m) ≡ false
    → FitsSomeCounts (ms ++ m ∷ [])
    → ⊥
unfolding FitsSomeCounts BeginsLegal
fits_not ms b m e never (others, same, (more, legal)) =
    let runs = legal_runs (others ++ more) legal in
    let goes = run_allowed (others ++ more) Start (Within runs.0 0) runs.1 in
    let forms : map form_of_token (others ++ more)
    ≡ (map form_of_token ms ++ form_of_token m ∷ []) ++ map form_of_token more =
    map-append form_of_token others more
    ∙ ap (λ l. l ++ map form_of_token more) (same ∙ map-append form_of_token ms (m ∷ [])) in
    let stops : allowed None ((map form_of_token ms ++ form_of_token m ∷ []) ++ map form_of_token more)
    ≡ None =
    rw append_assoc (allowed-append (map form_of_token ms) (form_of_token m ∷ map form_of_token more)
    None (phase_of b) (run_allowed ms Start b e)
    ∙ rw never refl) in
    let there = ap (λ l. allowed None l) forms in
    cc

-- a token at which the machine stops is a misfit of that kind
fault_kind : (m : Token) (j : ℕ) (kind : LineKind) → count_fault (form_of_token m) j ≡ Some kind → kind ≡ excess m
fault_kind (opens t k) zero kind e = absurd (cc)
fault_kind (opens t k) (suc j) kind e = cc
fault_kind (adds i) zero kind e = cc
fault_kind (adds i) (suc j) kind e = absurd (cc)

misfit_kind : (ms : List Token) (b : Stage) (m : Token) (kind : LineKind) (ok : Bool)
    → run Start ms ≡ Some b → can_come (phase_of b) (form_of_token m) ≡ ok
    → cond ok (count_fault (form_of_token m) (missing_at b)) (Some Misplaced) ≡ Some kind
    → MisfitKind ms m kind
misfit_kind ms b m kind false e is w = let same : kind ≡ Misplaced = cc in inl (same, fits_not ms b m e is)
misfit_kind ms b m kind true e is w = inr (fault_kind m (missing_at b) kind w, fits ms b m e is)

pub machine_misfit : (ms : List Token) (b : Stage) (m : Token) (kind : LineKind)
    → run Start ms ≡ Some b → misfit_at b (form_of_token m) ≡ Some kind
    → IsMisfit ms m kind
unfolding IsMisfit
machine_misfit ms b m kind e w =
    (stuck ms b m kind e w, misfit_kind ms b m kind (can_come (phase_of b) (form_of_token m)) e refl w)
