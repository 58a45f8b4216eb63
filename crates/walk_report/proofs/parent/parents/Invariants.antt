use Rattle.std.proofs.Common.{◌<◌, slice_index}
use Rattle.walk_report.proofs.Tails.{AreLeastTails}
use Rattle.walk_report.proofs.parent.parents.Given as goal

abbrev pub invariant-loop-tail : goal.invariant-loop-tail
invariant-loop-tail l =
    AreLeastTails l.csr.n l.csr.arcs (slice_index l.labels) (slice_index l.hops) (λ u. u < l.tail) l.parents.items
