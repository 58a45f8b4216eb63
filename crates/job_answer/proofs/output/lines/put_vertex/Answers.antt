use Rattle.std.proofs.Common.{rules}
use Rattle.job_answer.proofs.output.lines.put_vertex.Goals as goal

pub returns-then-label-bound : goal.returns-then-label-bound
returns-then-label-bound c = search rules
