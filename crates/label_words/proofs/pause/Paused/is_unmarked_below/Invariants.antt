use Rattle.std.proofs.Common.{◌≡◌, ℕ, ◌<◌, ◌≤◌, true}
use Rattle.std.specs.Prelude.{slice_index}
use Rattle.relax_core.specs.State.{mark_of}
use Rattle.label_words.proofs.pause.Paused.is_unmarked_below.Given as goal

abbrev pub invariant-loop-v : goal.invariant-loop-v
invariant-loop-v l =
    (v : ℕ) → v < l.v → mark_of l.self.marks v ≡ true → l.limit ≤ slice_index l.self.labels v
