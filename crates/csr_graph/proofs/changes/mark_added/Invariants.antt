use Rattle.std.proofs.Common.{◌≡◌, ℕ, get_or, length, take, true, false}
use Rattle.std.specs.Prelude.{All}
use Rattle.csr_graph.specs.Removal.{HasMark}
use Rattle.csr_graph.proofs.changes.mark_added.Given as goal

abbrev pub invariant-loop-arc : goal.invariant-loop-arc
invariant-loop-arc l = record {
  places : length l.marks ≡ length l.fn.marks;
  kept : (u : ℕ) → get_or l.fn.marks u false ≡ true → get_or l.marks u false ≡ true;
  marked : All (λ arc. HasMark l.marks arc.tail) (take l.arc-index l.arcs);
}
