use Rattle.std.proofs.Common.{◌+◌, ◌≤◌, length}
use Rattle.hierarchy.proofs.rows.place_of.Given as goal

abbrev pub invariant-loop-size : goal.invariant-loop-size
invariant-loop-size l = l.low + l.size ≤ length l.row

abbrev pub decreases-loop-size : goal.decreases-loop-size
decreases-loop-size l = l.size
