use Rattle.std.proofs.Common.{[], ◌∷◌, ◌++◌, append-nil, subst, sym, ◌∙◌}
use Rattle.dimacs_text.specs.declared.fault.LineKind.TheVariants.{TooFew}
use Rattle.request_reader.specs.Requests.{wrong}
use Rattle.request_reader.specs.Reading.{HasReadBefore, IsPassing, IsReading}
use Rattle.request_reader.proofs.States.{as_passing, as_reading, from_fresh}
use Rattle.request_reader.proofs.Steps.{ends_refused, ends_short, never_silent}
use Rattle.request_reader.proofs.request_reader.RequestReader.end.Goals as goal

pub returns-then-was_refused-clause-requests : goal.returns-then-was_refused-clause-requests
returns-then-was_refused-clause-requests c first all line outcomes h is =
    let old = c.args.self.now in
    let b = c.begin.ensures in
    let p =
    subst (λ x. IsPassing old.vertices x old.line first all [] outcomes) c.if-not-self.false
    (as_passing old.is_refused old first all [] outcomes c.if-was_refused.true h) in
    subst (λ os. HasReadBefore c.begin.new.self first all (line ∷ []) os) (sym (append-nil outcomes))
    (from_fresh c.begin.new.self old.vertices old.line first all (line ∷ []) outcomes b.refused b.section b.head
    b.vertices b.line
    (ends_refused old.vertices c.begin.new.self.draft old.line first all line outcomes p
    (sym is ∙ c.if-not-begins.false) b.draft b.lacking))

pub returns-then-not-lacks-clause-requests : goal.returns-then-not-lacks-clause-requests
returns-then-not-lacks-clause-requests c first all line outcomes h is =
    let old = c.args.self.now in
    let p =
    subst (λ x. IsReading old.vertices old.draft x old.head old.line first all [] outcomes) c.if-not-self.false
    (as_reading old.is_refused old first all [] outcomes c.if-was_refused.false h) in
    absurd
    (never_silent old.vertices old.draft old.head old.line first all [] outcomes p
    (λ ls read. c.is_short-lacks.ensures.silent old.vertices ls read c.if-not-lacks.true p.lacking))

pub returns-clause-requests : goal.returns-clause-requests
returns-clause-requests c first all line outcomes h is =
    let old = c.args.self.now in
    let b = c.begin.ensures in
    let p =
    subst (λ x. IsReading old.vertices old.draft x old.head old.line first all [] outcomes) c.if-not-self.false
    (as_reading old.is_refused old first all [] outcomes c.if-was_refused.false h) in
    subst (λ k. HasReadBefore c.begin.new.self first all (line ∷ []) (outcomes ++ wrong k TooFew ∷ [])) (sym b.line)
    (from_fresh c.begin.new.self old.vertices old.line first all (line ∷ []) (outcomes ++ wrong old.line TooFew ∷ [])
    b.refused b.section b.head b.vertices b.line
    (ends_short old.vertices old.draft c.begin.new.self.draft old.head old.line first all line outcomes p
    (sym is ∙ c.if-not-begins.false)
    (λ ls read. c.is_short-lacks.ensures.short old.vertices ls read c.if-not-lacks.false) b.draft b.lacking))
