use Rattle.std.proofs.Common.{◌≡◌, length}
use Rattle.engine_tests.proofs.runs.hostile.Hostile.open.Given as goal

abbrev pub invariant-loop-number : goal.invariant-loop-number
invariant-loop-number l = length l.sides.items ≡ l.number
