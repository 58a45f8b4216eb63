use Rattle.std.proofs.Common.{◌≡◌}
use Rattle.least_costs.specs.Network.{graph_of}
use Rattle.least_costs.proofs.preparing.choosing.chosen.Given as goal

abbrev pub invariant-loop : goal.invariant-loop
invariant-loop g l = l.landmarks.graph ≡ graph_of l.network
