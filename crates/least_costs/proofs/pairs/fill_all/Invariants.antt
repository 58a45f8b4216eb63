use Rattle.std.proofs.Common.{◌-◌, length}
use Rattle.least_costs.specs.Pairs.{AreCostsFrom, AreFilled, AreFilledAfter}
use Rattle.least_costs.specs.TaskQueue.{AreFinished}
use Rattle.least_costs.proofs.pairs.fill_all.Given as goal

abbrev pub invariant-loop-first : goal.invariant-loop-first
invariant-loop-first g l = record {
  before : AreFilled l.asked.network.now l.asked.pairs.now l.asked.order.now l.first l.costs;
  after : AreFilledAfter l.asked.grown l.asked.pairs.now l.asked.order.now l.first l.after;
  made : AreFinished (AreCostsFrom l.asked) l.queue.made.items;
}

abbrev pub decreases-loop-first : goal.decreases-loop-first
decreases-loop-first g l = length l.asked.order.now - l.first
