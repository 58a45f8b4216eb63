use Rattle.std.proofs.Common.{length}
use Rattle.job_answer.proofs.Known.{Splits}
use Rattle.job_answer.proofs.output.sink.write_bytes.Given as goal

abbrev pub invariant-loop-rest : goal.invariant-loop-rest
invariant-loop-rest g l = Splits (g.W.Write.contents l.initial.writer) (g.W.Write.contents l.writer) l.rest l.bytes

abbrev pub decreases-loop-rest : goal.decreases-loop-rest
decreases-loop-rest g l = length l.rest
