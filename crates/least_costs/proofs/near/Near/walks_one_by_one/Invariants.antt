use Rattle.std.proofs.Common.{take}
use Rattle.near_labels.specs.Found.{AreWalksFound}
use Rattle.least_costs.proofs.near.Near.walks_one_by_one.Given as goal

abbrev pub invariant-loop-target : goal.invariant-loop-target
invariant-loop-target l = AreWalksFound l.network.n l.network.arcs l.source (take l.target-index l.targets) l.found
