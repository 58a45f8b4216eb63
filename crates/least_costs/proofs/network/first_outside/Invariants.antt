use Rattle.std.proofs.Common.{take, All}
use Rattle.route_walks.specs.Walk.{IsArcBelow}
use Rattle.least_costs.specs.Network.{AreLight}
use Rattle.least_costs.proofs.network.first_outside.Given as goal

abbrev pub invariant-loop-place : goal.invariant-loop-place
invariant-loop-place l = record {
  within : All (IsArcBelow l.n) (take l.place l.arcs);
  light : AreLight (take l.place l.arcs);
}
