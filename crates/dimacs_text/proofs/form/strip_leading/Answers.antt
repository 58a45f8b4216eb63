use Rattle.std.proofs.Common.{◌∙◌, sym}
use Rattle.dimacs_text.specs.Lines.{fields}
use Rattle.dimacs_text.proofs.WordLemmas.{lead_more, lead_missing, drop_further}
use Rattle.dimacs_text.proofs.form.strip_leading.Goals as goal

pub returns-in_default : goal.returns-in_default
returns-in_default c =
    c.loop-expected.invariant.begins
    ∙ lead_missing _ _ c.args.line _ c.loop-expected-test.true c.in_default.ensures.fields

pub returns-then-ne : goal.returns-then-ne
returns-then-ne c =
    c.loop-expected.invariant.begins
    ∙ lead_more _ _ _ _ _ _ _ c.loop-expected-test.true c.in-Some.ensures.fields
    (sym c.if-ne.true ∙ c.ne.ensures)

pub loop-expected-preserved : goal.loop-expected-preserved
loop-expected-preserved c = record {
  begins =
      c.loop-expected.invariant.begins
      ∙ lead_more _ _ _ _ _ _ _ c.loop-expected-test.true c.in-Some.ensures.fields
      (sym c.if-ne.false ∙ c.ne.ensures);
  rest = drop_further c.loop-expected.expected-index _ _
      (fields c.args.line.now) _ c.loop-expected.invariant.rest c.in-Some.ensures.fields;
}
