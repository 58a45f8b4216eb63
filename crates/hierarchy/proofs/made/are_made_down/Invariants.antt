use Rattle.std.proofs.Common.{slice_index}
use Rattle.hierarchy.specs.Checked.{IsMade}
use Rattle.hierarchy.proofs.Arcs.{AreRowsBelow}
use Rattle.hierarchy.proofs.made.are_made_down.Given as goal

abbrev pub invariant-loop-u : goal.invariant-loop-u
invariant-loop-u l =
    AreRowsBelow (λ arc. IsMade (slice_index l.parts.vertices.items) l.csr.arcs l.parts.up.arcs l.parts.down.arcs arc.head arc.tail
    arc.weight) l.parts.down.arcs l.u
