use Rattle.std.proofs.Common.{◌≡◌}
use Rattle.costs_tests.proofs.asked.refusals.refused_of_each.Given as goal

abbrev pub invariant-loop-row : goal.invariant-loop-row
invariant-loop-row g l = l.each.net ≡ l.network
