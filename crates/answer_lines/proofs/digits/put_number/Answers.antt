use Rattle.std.proofs.Common.{arith}
use Rattle.std.proofs.lemmas.Fmt.{length-decimal-le}
use Rattle.answer_lines.proofs.digits.put_number.Goals as goal

pub write_digits-requires : goal.write_digits-requires
write_digits-requires c =
    let short = length-decimal-le 20 c.args.number (omega arith) (omega arith) (omega arith) in
    (omega arith, c.requires.1)

pub returns-clause-place : goal.returns-clause-place
returns-clause-place c =
    let short = length-decimal-le 20 c.args.number (omega arith) (omega arith) (omega arith) in
    let start = c.write_digits.ensures.start in
    (omega arith, omega arith)
