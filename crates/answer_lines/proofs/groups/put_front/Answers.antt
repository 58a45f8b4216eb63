use Rattle.std.proofs.Common.{arith}
use Rattle.std.proofs.lemmas.Fmt.{length-decimal-le}
use Rattle.answer_lines.proofs.groups.put_front.Goals as goal

pub write_digits-requires : goal.write_digits-requires
write_digits-requires c =
    let short = length-decimal-le 7 c.args.hundreds (omega arith) c.requires.short (omega arith) in
    (omega arith, omega (arith, c.requires.room))

pub returns-else-hundreds-eq0-clause-place : goal.returns-else-hundreds-eq0-clause-place
returns-else-hundreds-eq0-clause-place c =
    let short = length-decimal-le 7 c.args.hundreds (omega arith) c.requires.short (omega arith) in
    let start = c.write_digits.ensures.start in
    (omega arith, omega arith)
