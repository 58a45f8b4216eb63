use Rattle.std.proofs.Common.{arith, sym, ◌∙◌}
use Rattle.dimacs_text.proofs.MissingLines.{missing_inside, none_in}
use Rattle.dimacs_text.proofs.reader.JobReader.missing_lines.Goals as goal

pub returns : goal.returns
returns c = record {
  inside = λ text more r some filled few.
      missing_inside c.args.self.now text more
      (none_in c.args.self.now.lines.fault (sym c.is_some.ensures ∙ c.if-is_some.false)) r
      (omega (arith, some, c.missing_lines.ensures)) filled (omega (arith, few, c.missing_lines.ensures));
}
