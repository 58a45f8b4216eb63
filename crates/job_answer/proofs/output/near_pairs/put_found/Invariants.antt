use Rattle.std.proofs.Common.{drop, take}
use Rattle.job_answer.specs.AnswerText.{AreBlocks}
use Rattle.job_answer.specs.Sinks.{Puts}
use Rattle.job_answer.specs.Tasks.{IsWalkedBlock}
use Rattle.job_answer.proofs.output.near_pairs.put_found.Given as goal

abbrev pub invariant-loop-place : goal.invariant-loop-place
invariant-loop-place g l =
    Puts g.W.Write.contents
    (AreBlocks (IsWalkedBlock l.queries.graphs.now) (take l.place (drop l.fn.solve.first l.queries.pairs.now))) l.fn.sink
    l.sink
