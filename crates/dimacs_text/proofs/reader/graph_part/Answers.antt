use Rattle.std.proofs.Common.{arith, ◌≤◌, length, subst, sym}
use Rattle.std.proofs.lemmas.List.{take_all}
use Rattle.dimacs_text.specs.Lines.{lines}
use Rattle.dimacs_text.proofs.MissingLines.{few_bytes}
use Rattle.dimacs_text.proofs.reader.graph_part.Goals as goal

pub returns-then-bytes-missing-clause-few : goal.returns-then-bytes-missing-clause-few
returns-then-bytes-missing-clause-few c =
    subst (λ l. length (lines l) ≤ c.args.missing) (sym (take_all (length c.args.bytes.now) c.args.bytes.now (omega arith)))
    (omega (arith, few_bytes c.args.bytes.now, c.if-bytes-missing.true))
