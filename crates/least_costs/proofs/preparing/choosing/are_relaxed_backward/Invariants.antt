use Rattle.std.proofs.Common.{take}
use Rattle.std.specs.Prelude.{All, slice_index}
use Rattle.route_walks.specs.Bounds.{IsRelaxedBackward}
use Rattle.least_costs.proofs.preparing.choosing.are_relaxed_backward.Given as goal

abbrev pub invariant-loop-arc : goal.invariant-loop-arc
invariant-loop-arc l = All (IsRelaxedBackward (slice_index l.labels)) (take l.arc-index l.arcs)
