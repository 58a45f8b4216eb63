use Rattle.std.proofs.Common.{take}
use Rattle.least_costs.specs.Costs.{AreCostsTo}
use Rattle.least_costs.proofs.costs.costs_at.Given as goal

abbrev pub invariant-loop-v : goal.invariant-loop-v
invariant-loop-v l = AreCostsTo l.network l.fn.start (take l.v-index l.vertices) l.costs.items
