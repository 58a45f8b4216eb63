use Rattle.std.proofs.Common.{take}
use Rattle.least_costs.specs.Costs.{AreCostsTo}
use Rattle.least_costs.proofs.costs.costs_in_order.Given as goal

abbrev pub invariant-loop-label : goal.invariant-loop-label
invariant-loop-label l = AreCostsTo l.fn.network l.fn.start (take l.label-index l.fn.vertices) l.costs.items
