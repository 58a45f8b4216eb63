use Rattle.least_costs.specs.TaskQueue.{AreFinished}
use Rattle.least_costs.proofs.workers.task_queue.make_some.Given as goal

abbrev pub invariant-loop : goal.invariant-loop
invariant-loop g l = AreFinished (g.T.Tasks.is_part l.round.tasks.now) l.state.made.items
