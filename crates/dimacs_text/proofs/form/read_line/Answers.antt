use Rattle.std.proofs.Common.{None, Some, get_or, refl, ap, ◌∙◌, eq-eqb}
use Rattle.dimacs_text.specs.Lines.{letter_c}
use Rattle.dimacs_text.specs.Forms.{limits, numbers_within, in_form, fields_reading, reading}
use Rattle.dimacs_text.proofs.WordLemmas.{says_form}
use Rattle.dimacs_text.proofs.form.read_line.Goals as goal

pub returns-in_default : goal.returns-in_default
unfolding reading fields_reading
returns-in_default c = rw (← c.trim_cr-line.ensures, c.in_default.ensures.fields) refl

pub returns-then-first-eq99 : goal.returns-then-first-eq99
unfolding reading fields_reading
returns-then-first-eq99 c =
    rw (
      ← c.trim_cr-line.ensures,
      c.in-Some.ensures.fields,
      eq-eqb (get_or c.in-Some.first.now 0 0) letter_c c.if-first-eq99.true,
    ) refl

pub returns-in_default-find_form : goal.returns-in_default-find_form
returns-in_default-find_form c =
    says_form c.args.vertices c.args.line.now _ _ _ None c.trim_cr-line.ensures c.in-Some.ensures.fields
    c.if-first-eq99.false c.in_default-find_form.ensures

pub returns-in-Ok : goal.returns-in-Ok
returns-in-Ok c =
    let form = c.in-Some-find_form.form in
    c.in-Ok.ensures
    ∙ ap (λ args. in_form form (numbers_within (limits c.args.vertices form) args)) c.in-Some-find_form.ensures.1
    ∙ says_form c.args.vertices c.args.line.now _ _ _ (Some form) c.trim_cr-line.ensures c.in-Some.ensures.fields
    c.if-first-eq99.false c.in-Some-find_form.ensures.0

pub returns-in-Err : goal.returns-in-Err
returns-in-Err c =
    let form = c.in-Some-find_form.form in
    c.in-Err.ensures
    ∙ ap (λ args. in_form form (numbers_within (limits c.args.vertices form) args)) c.in-Some-find_form.ensures.1
    ∙ says_form c.args.vertices c.args.line.now _ _ _ (Some form) c.trim_cr-line.ensures c.in-Some.ensures.fields
    c.if-first-eq99.false c.in-Some-find_form.ensures.0
