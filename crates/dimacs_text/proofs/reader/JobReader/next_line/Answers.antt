use Rattle.std.proofs.Common.{arith}
use Rattle.dimacs_text.proofs.GraphTextLemmas.{line_begun, none_begun}
use Rattle.dimacs_text.proofs.reader.JobReader.next_line.Goals as goal

pub returns-then-has_begun_line : goal.returns-then-has_begun_line
returns-then-has_begun_line c text job r is_job =
    let some = c.has_begun_line.ensures.some c.if-has_begun_line.true in
    let is = line_begun c.args.self.now text job r is_job some in
    omega (arith, is.0, is.1, r.short, c.saturating_add.ensures)

pub returns-else-has_begun_line : goal.returns-else-has_begun_line
returns-else-has_begun_line c text job r is_job =
    let none = c.has_begun_line.ensures.none c.if-has_begun_line.false in
    none_begun c.args.self.now text job r is_job none.0 none.1
