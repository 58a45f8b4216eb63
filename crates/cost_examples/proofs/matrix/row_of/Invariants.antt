use Rattle.std.proofs.Common.{take}
use Rattle.least_costs.specs.Costs.{IsCostTo}
use Rattle.least_costs.specs.Taken.{AreFor}
use Rattle.cost_examples.proofs.matrix.row_of.Given as goal

abbrev pub invariant-loop-target : goal.invariant-loop-target
invariant-loop-target l = AreFor (IsCostTo l.costs.net l.costs.start) (take l.target-index l.targets) l.row.items
