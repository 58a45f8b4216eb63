use Rattle.std.proofs.Common.{◌≡◌, ◌++◌, take, drop}
use Rattle.route_walks.specs.Operators.{unit_weights}
use Rattle.least_costs.proofs.network.set_unit_weights.Given as goal

abbrev pub invariant-loop-arc : goal.invariant-loop-arc
invariant-loop-arc l = l.arcs ≡ unit_weights (take l.arc-index l.initial.arcs) ++ drop l.arc-index l.initial.arcs
