use Rattle.std.proofs.Common.{sym, ap, ◌∙◌, arith}
use Rattle.dimacs_text.specs.Lines.{fields}
use Rattle.dimacs_text.specs.Forms.{leading, forms, begins_with}
use Rattle.dimacs_text.proofs.WordLemmas.{find_further}
use Rattle.dimacs_text.proofs.form.find_form.Goals as goal

pub loop-form-preserved : goal.loop-form-preserved
loop-form-preserved c =
    c.loop-form.invariant
    ∙ find_further (λ form. begins_with (leading form) (fields c.args.line.now)) forms c.loop-form.form-index _
    (omega (arith, c.loop-form-test.true))
    (ap (λ ws. begins_with ws (fields c.args.line.now)) (sym c.leading.ensures) ∙ c.in_default.ensures)
