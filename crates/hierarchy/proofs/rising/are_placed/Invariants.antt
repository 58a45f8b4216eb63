use Rattle.std.proofs.Common.{◌≡◌, ℕ, ◌<◌, length, slice_index}
use Rattle.hierarchy.proofs.rising.are_placed.Given as goal

abbrev pub invariant-loop-v : goal.invariant-loop-v
invariant-loop-v l =
    (v : ℕ) → v < l.v
    → (slice_index l.places v < length l.places) × (slice_index l.vertices (slice_index l.places v) ≡ v)
