use Rattle.std.proofs.Common.{◌≡◌, slice_index, take}
use Rattle.std.specs.Prelude.{All}
use Rattle.near_labels.specs.UpDown.{HasUpDown}
use Rattle.hierarchy.proofs.bridges.is_row_kept.Given as goal

abbrev pub invariant-loop-target : goal.invariant-loop-target
invariant-loop-target l = record {
  room : l.probe ≡ l.fn.probe;
  kept :
      All (λ target. HasUpDown l.parts.up.arcs l.parts.down.arcs (slice_index l.parts.places.items l.u)
      (slice_index l.parts.places.items target.head) target.weight) (take l.target-index l.row);
}
