use Rattle.std.proofs.Common.{slice_index, take}
use Rattle.std.specs.Prelude.{All}
use Rattle.csr_graph.specs.Graph.{targets_of}
use Rattle.hierarchy.specs.Checked.{IsMade}
use Rattle.hierarchy.proofs.made.is_row_made_down.Given as goal

abbrev pub invariant-loop-target : goal.invariant-loop-target
invariant-loop-target l =
    All (λ target. IsMade (slice_index l.parts.vertices.items) l.csr.arcs l.parts.up.arcs l.parts.down.arcs target.head l.u
    target.weight) (take l.target-index (targets_of l.parts.down.arcs l.u))
