use Rattle.std.proofs.Common.{take}
use Rattle.least_costs.specs.Costs.{AreCostsTo}
use Rattle.least_costs.specs.declared.start.Start.TheVariants.{At}
use Rattle.least_costs.proofs.near.Near.costs_one_by_one.Given as goal

abbrev pub invariant-loop-target : goal.invariant-loop-target
invariant-loop-target l = AreCostsTo l.network (At l.source) (take l.target-index l.targets) l.costs.items
