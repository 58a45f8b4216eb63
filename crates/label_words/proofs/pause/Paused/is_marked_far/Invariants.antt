use Rattle.std.proofs.Common.{◌≡◌, ℕ, ◌<◌, true}
use Rattle.std.specs.Prelude.{slice_index}
use Rattle.relax_core.specs.State.{mark_of}
use Rattle.csr_graph.specs.Bounds.{ArePast}
use Rattle.label_words.proofs.pause.Paused.is_marked_far.Given as goal

abbrev pub invariant-loop-v : goal.invariant-loop-v
invariant-loop-v l =
    (v : ℕ) → v < l.v → mark_of l.self.marks v ≡ true → ArePast l.limit l.bounds v (slice_index l.self.labels v)
