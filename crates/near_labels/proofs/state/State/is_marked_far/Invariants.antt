use Rattle.std.proofs.Common.{◌≡◌, take, true}
use Rattle.std.specs.Prelude.{All, slice_index}
use Rattle.relax_core.specs.State.{mark_of}
use Rattle.csr_graph.specs.Bounds.{ArePast}
use Rattle.near_labels.proofs.state.State.is_marked_far.Given as goal

abbrev pub invariant-loop-v : goal.invariant-loop-v
invariant-loop-v l =
    All (λ v. mark_of l.self.marks.items v ≡ true → ArePast l.limit l.bounds v (slice_index l.self.labels.items v))
    (take l.v-index l.self.noted.items)
