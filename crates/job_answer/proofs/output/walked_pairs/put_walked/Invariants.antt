use Rattle.std.proofs.Common.{slice_range}
use Rattle.job_answer.specs.AnswerText.{AreBlocks}
use Rattle.job_answer.specs.Sinks.{Puts}
use Rattle.job_answer.specs.Tasks.{IsWalkedBlock}
use Rattle.job_answer.proofs.output.walked_pairs.put_walked.Given as goal

abbrev pub invariant-loop-at : goal.invariant-loop-at
invariant-loop-at g l =
    Puts g.W.Write.contents
    (AreBlocks (IsWalkedBlock l.queries.graphs.now) (slice_range l.queries.pairs.now l.fn.solve.first l.at)) l.fn.sink l.sink
