use Rattle.std.proofs.Common.{◌≡◌, drop, find}
use Rattle.dimacs_text.specs.Lines.{fields}
use Rattle.dimacs_text.specs.Forms.{begins_with, leading, forms, form_of}
use Rattle.dimacs_text.proofs.form.find_form.Given as goal

abbrev pub invariant-loop-form : goal.invariant-loop-form
invariant-loop-form l =
    form_of (fields l.line)
    ≡ find (λ form. begins_with (leading form) (fields l.line)) (drop l.form-index forms)
