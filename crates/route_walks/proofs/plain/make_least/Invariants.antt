use Rattle.std.proofs.Common.{◌≡◌, ◌+◌, false, cond, length, sum, take, slice_index}
use Rattle.std.specs.List.{All}
use Rattle.route_walks.specs.Label.{IsRelaxed}
use Rattle.route_walks.proofs.Lowering.{AreLowered, IsRound}
use Rattle.route_walks.proofs.plain.make_least.Given as goal

abbrev pub invariant-loop-seed : goal.invariant-loop-seed
invariant-loop-seed l = AreLowered (length l.fn.labels) l.arcs l.seeds (take l.seed-index l.seeds) l.labels

abbrev pub invariant-loop-fell : goal.invariant-loop-fell
invariant-loop-fell l =
    AreLowered (length l.fn.labels) l.arcs l.seeds l.seeds l.labels
    × (l.fell ≡ false → All (IsRelaxed (slice_index l.labels)) l.arcs)

abbrev pub decreases-loop-fell : goal.decreases-loop-fell
decreases-loop-fell l = sum l.labels + cond l.fell 1 0

abbrev pub invariant-loop-arc : goal.invariant-loop-arc
invariant-loop-arc l =
    IsRound (length l.fn.labels) l.arcs l.seeds l.initial.labels l.labels l.arc-index l.fell
