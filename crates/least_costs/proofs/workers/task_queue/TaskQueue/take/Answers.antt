use Rattle.std.proofs.Common.{◌-◌, arith, length}
use Rattle.std.proofs.lemmas.List.Elements.{All-set, All-take}
use Rattle.least_costs.specs.declared.workers.task_queue.FinishedTask.{FinishedTask}
use Rattle.least_costs.proofs.workers.task_queue.TaskQueue.take.Goals as goal

pub returns-clause-left : goal.returns-clause-left
returns-clause-left g c =
    let IsPart : FinishedTask g.row.P.Denot → Type 0 = λ one. g.T.Tasks.is_part c.args.tasks.now one.place one.part in
    let made = c.make_next.new.self.made.items in
    rw c.swap_remove.ensures.items
    (All-take IsPart (length made - 1) _
    (All-set IsPart made c.in_ok-at.at _
    (c.make_next.ensures.made (length made - 1) c.swap_remove.result (omega (arith, c.in_ok-at.ensures.bound))) c.make_next.ensures.made))
