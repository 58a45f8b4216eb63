use Rattle.std.proofs.Common.{◌≡◌, ◌+◌, ◌&&◌, ◌||◌, Bool, true, false, List, ℕ, [], ◌∷◌, ◌++◌, Option, Some, None, ap, refl, sym, ◌∙◌}
use Rattle.dimacs_text.specs.declared.head.SectionHead.{SectionHead}
use Rattle.std.specs.Option.{option_or}
use Rattle.dimacs_text.specs.AfterGraph.{head_of}
use Rattle.dimacs_text.specs.Heads.{begins_section}
use Rattle.dimacs_text.specs.Lines.{begins_comment}
use Rattle.dimacs_text.proofs.Facts.{comment_begins_none, comment_said, not_whole, others_no_head}
use Rattle.request_reader.specs.declared.request_reader.RequestReader.{RequestReader}
use Rattle.request_reader.specs.Requests.{Outcome, told}
use Rattle.request_reader.specs.Reading.{IsAmong}
use Rattle.request_reader.proofs.Steps.{goes_on, passes_by, waits, waits_passing}
use Rattle.request_reader.proofs.request_reader.RequestReader.pass_comment.Goals as goal

-- no section line comes with it
none_more : (had : Bool) (line : List ℕ) → begins_comment line ≡ true → (had && begins_section line) ≡ false
none_more false line is = refl
none_more true line is = comment_begins_none line is

as_many : (had : Bool) (line : List ℕ) → begins_comment line ≡ true → had ≡ (had || begins_section line)
as_many false line is = sym (comment_begins_none line is)
as_many true line is = refl

-- and no head
as_before : (before : Option SectionHead) → option_or before None ≡ before
as_before None = refl
as_before (Some head) = refl

same_head : (before : Option SectionHead) (line : List ℕ) → begins_comment line ≡ true → before ≡ option_or before (head_of line)
same_head before line is =
    sym (ap (λ x. option_or before x) (others_no_head line (comment_begins_none line is)) ∙ as_before before)

passed : (refused : Bool) (old : RequestReader) (next first : ℕ) (all : List (List ℕ)) (outcomes : List Outcome)
    (line : List ℕ)
    → IsAmong refused old first all [] outcomes → begins_comment line ≡ true → next ≡ told (old.line + 1)
    → IsAmong refused (record old { line = next }) first (all ++ line ∷ []) [] outcomes
passed false old next first all outcomes line p is number =
    goes_on old.vertices old.draft old.draft old.has_section old.has_section old.head old.head old.line next first all
    line outcomes (waits old.vertices old.draft old.has_section old.head old.line first all line outcomes p)
    (λ ls read. comment_said old.vertices ls old.draft line is read) p.lacking
    (λ ls job read w. not_whole old.vertices ls old.draft job p.lacking read w)
    (none_more old.has_section line is) (as_many old.has_section line is) (same_head old.head line is) number
passed true old next first all outcomes line p is number =
    passes_by old.vertices old.has_section old.has_section old.line next first all line outcomes
    (waits_passing old.vertices old.has_section old.line first all line outcomes p)
    (none_more old.has_section line is) (as_many old.has_section line is) number

pub returns-clause-requests : goal.returns-clause-requests
returns-clause-requests c first all outcomes line h is =
    let old = c.args.self.now in
    passed old.is_refused old c.saturating_add-self.result first all outcomes line h is c.saturating_add-self.ensures
