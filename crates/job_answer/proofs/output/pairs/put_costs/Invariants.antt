use Rattle.std.proofs.Common.{take}
use Rattle.job_answer.specs.AnswerText.{AreBlocks}
use Rattle.job_answer.specs.Graphs.{growth_of}
use Rattle.job_answer.specs.Sinks.{Puts}
use Rattle.job_answer.specs.Within.{IsGrownLinesPair}
use Rattle.job_answer.proofs.output.pairs.put_costs.Given as goal

abbrev pub invariant-loop-place : goal.invariant-loop-place
invariant-loop-place g l =
    Puts g.W.Write.contents
    (AreBlocks (IsGrownLinesPair l.fn.lines l.graphs.network.n l.graphs.network.arcs (growth_of l.graphs.grown))
    (take l.place l.pairs))
    l.fn.sink l.sink
