use Rattle.std.proofs.Common.{◌≡◌, ℕ, ◌<◌}
use Rattle.std.specs.Prelude.{All}
use Rattle.csr_graph.specs.Graph.{targets_of}
use Rattle.hierarchy.specs.Checked.{AreMet}
use Rattle.hierarchy.proofs.bridges.are_bridged.Given as goal

abbrev pub invariant-loop-v : goal.invariant-loop-v
invariant-loop-v l = record {
  room : l.probe ≡ l.fn.probe;
  met :
      (v : ℕ) → v < l.v
      → All (λ from. AreMet l.parts.up.arcs l.parts.down.arcs from.head from.weight (targets_of l.parts.up.arcs v))
      (targets_of l.parts.down.arcs v);
}
