use Rattle.std.proofs.Common.{◌≡◌, ◌&&◌, ◌||◌, false, List, ℕ, [], ◌∷◌, ◌++◌, append-nil, ap, subst, sym, ◌∙◌}
use Rattle.dimacs_text.specs.Jobs.{content_of}
use Rattle.std.specs.Option.{option_or}
use Rattle.dimacs_text.specs.AfterGraph.{head_or_plain, IsFaultAfter, IsHeadWithin, IsWhole}
use Rattle.dimacs_text.specs.RequestDrafts.{HasReadAfter}
use Rattle.dimacs_text.proofs.Facts.{head_more, heads_within, request_within}
use Rattle.request_reader.specs.Requests.{whole}
use Rattle.request_reader.specs.Reading.{HasReadBefore, IsPassing, IsReading}
use Rattle.request_reader.proofs.States.{as_passing, as_reading, from_fresh, from_passing, from_reading, refused_last}
use Rattle.request_reader.proofs.Steps.{completes, goes_on, passes_by, starves, turns_wrong}
use Rattle.request_reader.proofs.request_reader.RequestReader.take.Goals as goal

pub returns-then-self-clause-requests : goal.returns-then-self-clause-requests
returns-then-self-clause-requests c first all outcomes h =
    let old = c.args.self.now in
    let line = c.args.line.now in
    from_passing old.is_refused _ first (all ++ line ∷ []) [] (outcomes ++ []) c.if-self.true
    (subst
    (λ os.
    IsPassing old.vertices (old.has_section || c.args.begins) c.saturating_add-self.result first (all ++ line ∷ []) [] os)
    (sym (append-nil outcomes))
    (passes_by old.vertices old.has_section (old.has_section || c.args.begins) old.line c.saturating_add-self.result
    first all line outcomes
    (as_passing old.is_refused old first all (line ∷ []) outcomes c.if-self.true h)
    (subst (λ x. (old.has_section && x) ≡ false) c.requires.begins c.requires.first)
    (ap (λ x. old.has_section || x) c.requires.begins) c.saturating_add-self.ensures))

pub returns-in-Err-Memory-clause-requests : goal.returns-in-Err-Memory-clause-requests
returns-in-Err-Memory-clause-requests c first all outcomes h =
    let old = c.args.self.now in
    let line = c.args.line.now in
    starves old.vertices old.draft old.has_section (old.has_section || c.args.begins) old.head old.line
    c.saturating_add-self.result first all line outcomes
    (as_reading old.is_refused old first all (line ∷ []) outcomes c.if-self.false h)
    (subst (λ x. (old.has_section && x) ≡ false) c.requires.begins c.requires.first)
    (ap (λ x. old.has_section || x) c.requires.begins) c.saturating_add-self.ensures

pub returns-in-Err-Line-clause-requests : goal.returns-in-Err-Line-clause-requests
returns-in-Err-Line-clause-requests c first all outcomes h =
    let old = c.args.self.now in
    let line = c.args.line.now in
    turns_wrong old.vertices old.draft old.has_section (old.has_section || c.args.begins) old.head old.line
    c.saturating_add-self.result first all line outcomes c.in-Err-Line.line c.in-Err-Line.kind
    (as_reading old.is_refused old first all (line ∷ []) outcomes c.if-self.false h)
    (λ ls read.
    subst (λ fault. IsFaultAfter old.vertices ls line old.line fault) c.in-Err-Line.field-0-is
    (c.in-Err-Line.ensures.fault old.vertices ls read))
    (subst (λ x. (old.has_section && x) ≡ false) c.requires.begins c.requires.first)
    (ap (λ x. old.has_section || x) c.requires.begins) c.saturating_add-self.ensures

-- the job of the lines
finished : (c : goal.After-finish) (ls : List (List ℕ))
    → HasReadAfter c.args.self.now.vertices ls c.read.new.self
    → IsWhole c.args.self.now.vertices ls (content_of c.finish.result)
finished c ls read =
    c.finish.ensures c.args.self.now.vertices ls
    (subst (λ d. HasReadAfter c.args.self.now.vertices ls d) (sym c.begin-draft.ensures.before) read)

pub returns-in-Ok-clause-requests : goal.returns-in-Ok-clause-requests
returns-in-Ok-clause-requests c first all outcomes h =
    let old = c.args.self.now in
    let line = c.args.line.now in
    let fresh = c.begin-draft.new.self in
    let b = c.begin-draft.ensures in
    let content = content_of c.finish.result in
    subst
    (λ head. HasReadBefore fresh first (all ++ line ∷ []) [] (outcomes ++ whole old.line content head ∷ [])) (sym c.or_plain-head.ensures)
    (from_fresh fresh old.vertices c.saturating_add-self.result first (all ++ line ∷ []) []
    (outcomes ++ whole old.line content (head_or_plain c.or-self.result) ∷ []) b.refused b.section b.head b.vertices b.line
    (completes old.vertices old.draft c.read.new.self fresh.draft old.has_section old.head c.or-self.result old.line
    c.saturating_add-self.result first all line outcomes content
    (as_reading old.is_refused old first all (line ∷ []) outcomes c.if-self.false h)
    (λ ls read. c.in-Ok.ensures.reads old.vertices ls read) (λ ls read. finished c ls read)
    (c.or-self.ensures ∙ ap (λ x. option_or old.head x) c.head_by.ensures) c.saturating_add-self.ensures b.draft b.lacking))

pub returns-in-Ok-clause-within : goal.returns-in-Ok-clause-within
returns-in-Ok-clause-within c first all outcomes h few =
    let old = c.args.self.now in
    let line = c.args.line.now in
    let p = as_reading old.is_refused old first all (line ∷ []) outcomes c.if-self.false h in
    let is = c.or-self.ensures ∙ ap (λ x. option_or old.head x) c.head_by.ensures in
    let job =
    request_within old.vertices (p.ls ++ line ∷ []) (content_of c.finish.result) few
    (finished c (p.ls ++ line ∷ []) (c.in-Ok.ensures.reads old.vertices p.ls p.read)) in (
      job.0,
      job.1,
      job.2,
      subst IsHeadWithin
          (sym (c.or_plain-head.ensures ∙ ap head_or_plain (head_more p.ls line old.head c.or-self.result p.head_is is)))
          (heads_within (p.ls ++ line ∷ [])),
    )

pub returns-in-Ok-clause-refusable : goal.returns-in-Ok-clause-refusable
returns-in-Ok-clause-refusable c first all outcomes h =
    let old = c.args.self.now in
    let line = c.args.line.now in
    let b = c.begin-draft.ensures in
    refused_last c.begin-draft.new.self old.vertices c.saturating_add-self.result old.line first
    (old.has_section || c.args.begins) (all ++ line ∷ []) outcomes b.vertices b.had_section b.line b.last
    (starves old.vertices old.draft old.has_section (old.has_section || c.args.begins) old.head old.line
    c.saturating_add-self.result first all line outcomes
    (as_reading old.is_refused old first all (line ∷ []) outcomes c.if-self.false h)
    (subst (λ x. (old.has_section && x) ≡ false) c.requires.begins c.requires.first)
    (ap (λ x. old.has_section || x) c.requires.begins) c.saturating_add-self.ensures)

pub returns-in-Ok-2-clause-requests : goal.returns-in-Ok-2-clause-requests
returns-in-Ok-2-clause-requests c first all outcomes h =
    let old = c.args.self.now in
    let line = c.args.line.now in
    from_reading old.is_refused _ first (all ++ line ∷ []) [] (outcomes ++ []) c.if-self.false
    (subst
    (λ os.
    IsReading old.vertices c.read.new.self (old.has_section || c.args.begins) c.or-self.result
    c.saturating_add-self.result first (all ++ line ∷ []) [] os)
    (sym (append-nil outcomes))
    (goes_on old.vertices old.draft c.read.new.self old.has_section (old.has_section || c.args.begins) old.head
    c.or-self.result old.line c.saturating_add-self.result first all line outcomes
    (as_reading old.is_refused old first all (line ∷ []) outcomes c.if-self.false h)
    (λ ls read. c.in-Ok.ensures.reads old.vertices ls read) (sym c.is_whole.ensures.is ∙ c.if-is_whole.false)
    (λ ls job read w.
    let one = c.is_whole.ensures.whole old.vertices ls job read w in
    let other = c.if-is_whole.false in
    cc)
    (subst (λ x. (old.has_section && x) ≡ false) c.requires.begins c.requires.first)
    (ap (λ x. old.has_section || x) c.requires.begins) (c.or-self.ensures ∙ ap (λ x. option_or old.head x) c.head_by.ensures)
    c.saturating_add-self.ensures))
