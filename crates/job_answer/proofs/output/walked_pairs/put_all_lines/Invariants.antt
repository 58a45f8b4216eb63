use Rattle.std.proofs.Common.{◌-◌, take}
use Rattle.job_answer.specs.AnswerText.{AreBlocks}
use Rattle.job_answer.specs.Sinks.{Puts}
use Rattle.job_answer.specs.Tasks.{AreLines, IsWalkedBlock}
use Rattle.least_costs.specs.TaskQueue.{AreFinished}
use Rattle.job_answer.proofs.output.walked_pairs.put_all_lines.Given as goal

abbrev pub invariant-loop-first : goal.invariant-loop-first
invariant-loop-first g l = record {
  put : Puts g.W.Write.contents (AreBlocks (IsWalkedBlock l.tasks.queries.graphs.now) (take l.first l.tasks.queries.pairs.now))
      l.initial.sink l.sink;
  made : AreFinished (AreLines l.tasks) l.queue.made.items;
}

abbrev pub decreases-loop-first : goal.decreases-loop-first
decreases-loop-first g l = l.count - l.first
