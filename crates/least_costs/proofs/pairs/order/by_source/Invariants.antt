use Rattle.least_costs.proofs.Filling.{ArePlaced}
use Rattle.least_costs.proofs.pairs.order.by_source.Given as goal

abbrev pub invariant-loop-place : goal.invariant-loop-place
invariant-loop-place l = ArePlaced l.pairs l.place l.order.items
