use Rattle.least_costs.specs.Pairs.{AreTargets}
use Rattle.least_costs.proofs.pairs.targets_of.Given as goal

abbrev pub invariant-loop-at : goal.invariant-loop-at
invariant-loop-at l = AreTargets l.asked l.first l.at l.targets.items
