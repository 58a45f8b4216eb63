use Rattle.std.proofs.Common.{◌≡◌, slice_index}
use Rattle.near_labels.specs.UpDown.{HasUpDown}
use Rattle.hierarchy.proofs.Arcs.{AreRowsBelow}
use Rattle.hierarchy.proofs.bridges.are_kept.Given as goal

abbrev pub invariant-loop-u : goal.invariant-loop-u
invariant-loop-u l = record {
  room : l.probe ≡ l.fn.probe;
  kept :
      AreRowsBelow (λ arc. HasUpDown l.parts.up.arcs l.parts.down.arcs (slice_index l.parts.places.items arc.tail)
      (slice_index l.parts.places.items arc.head) arc.weight) l.csr.arcs l.u;
}
