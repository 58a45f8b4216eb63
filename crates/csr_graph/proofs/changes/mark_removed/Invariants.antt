use Rattle.std.proofs.Common.{◌≡◌, length, take}
use Rattle.std.specs.Prelude.{All}
use Rattle.csr_graph.specs.Removal.{HasMark}
use Rattle.csr_graph.proofs.changes.mark_removed.Given as goal

abbrev pub invariant-loop-tail : goal.invariant-loop-tail
invariant-loop-tail l = record {
  places : length l.marks ≡ length l.fn.marks;
  marked : All (λ pair. HasMark l.marks pair.0) (take l.tail-index l.pairs);
}
