use Rattle.std.proofs.Common.{◌≡◌, ℕ, ◌<◌, slice_index}
use Rattle.walk_report.proofs.Tails.{AreLeastTails}
use Rattle.walk_report.proofs.parent.parents_among.Given as goal

abbrev pub invariant-loop-tail : goal.invariant-loop-tail
invariant-loop-tail l =
    AreLeastTails l.csr.n l.csr.arcs (slice_index l.labels) (slice_index l.hops)
    (λ u. (k : ℕ) × (k < l.tail-index) × (slice_index l.vertices k ≡ u)) l.parents
