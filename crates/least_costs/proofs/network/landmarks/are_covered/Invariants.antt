use Rattle.std.proofs.Common.{take}
use Rattle.least_costs.specs.Landmarks.{AreCovered}
use Rattle.least_costs.proofs.network.landmarks.are_covered.Given as goal

abbrev pub invariant-loop-arc : goal.invariant-loop-arc
invariant-loop-arc l = AreCovered (take l.arc-index l.arcs) l.others
