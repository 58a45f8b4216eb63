use Rattle.std.proofs.Common.{◌≤◌, All, length}
use Rattle.least_costs.specs.TaskQueue.{AreFinished}
use Rattle.least_costs.proofs.workers.task_queue.do_round.Given as goal

abbrev pub invariant-loop-at : goal.invariant-loop-at
invariant-loop-at g l = record {
  made : AreFinished (g.T.Tasks.is_part l.round.tasks.now) l.made.items;
  few : length l.made.items ≤ l.most;
  states : All (λ state. AreFinished (g.T.Tasks.is_part l.round.tasks.now) state.made.items) l.states;
}
