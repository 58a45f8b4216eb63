use Rattle.std.proofs.Common.{◌∙◌, sym}
use Rattle.dimacs_text.specs.Lines.{fields}
use Rattle.dimacs_text.proofs.HeadLemmas.{by_fit, no_form}
use Rattle.dimacs_text.proofs.head.find_head.Goals as goal

pub returns-in_default : goal.returns-in_default
returns-in_default c =
    no_form (fields c.args.args.now) (fields c.take_kind-kind.result.1.now) (fields c.take_lines-lines.result.1.now)
    c.take_kind-kind.result.0 c.take_lines-lines.result.0 c.take_kind-kind.ensures c.take_lines-lines.ensures
    c.in_default.ensures

pub returns-then-not-fits : goal.returns-then-not-fits
returns-then-not-fits c =
    by_fit (fields c.args.args.now) (fields c.take_kind-kind.result.1.now) (fields c.take_lines-lines.result.1.now)
    (fields c.in-Some.rest.now) c.take_kind-kind.result.0 c.take_lines-lines.result.0 c.in-Some.form _
    c.take_kind-kind.ensures c.take_lines-lines.ensures c.in-Some.ensures (sym c.fits.ensures ∙ c.if-not-fits.true)

pub returns : goal.returns
returns c =
    by_fit (fields c.args.args.now) (fields c.take_kind-kind.result.1.now) (fields c.take_lines-lines.result.1.now)
    (fields c.in-Some.rest.now) c.take_kind-kind.result.0 c.take_lines-lines.result.0 c.in-Some.form _
    c.take_kind-kind.ensures c.take_lines-lines.ensures c.in-Some.ensures (sym c.fits.ensures ∙ c.if-not-fits.false)
