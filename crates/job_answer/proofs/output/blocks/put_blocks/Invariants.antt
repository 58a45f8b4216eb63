use Rattle.std.proofs.Common.{take}
use Rattle.least_costs.specs.TaskQueue.{AreFinished}
use Rattle.job_answer.specs.AnswerText.{AreBlocks}
use Rattle.job_answer.specs.Sinks.{Puts}
use Rattle.job_answer.specs.Tasks.{IsBlockText, IsSourceBlock}
use Rattle.job_answer.proofs.output.blocks.put_blocks.Given as goal

abbrev pub invariant-loop-place : goal.invariant-loop-place
invariant-loop-place g l = record {
  put : Puts g.W.Write.contents (AreBlocks (IsSourceBlock l.tasks) (take l.place l.tasks.sources.now)) l.initial.sink l.sink;
  made : AreFinished (IsBlockText l.tasks) l.queue.made.items;
}
