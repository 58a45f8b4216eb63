use Rattle.std.proofs.Common.{◌≡◌}
use Rattle.costs_tests.proofs.asked.draws.expect_plain.Given as goal

abbrev pub invariant-loop-source : goal.invariant-loop-source
invariant-loop-source g l = l.each.net ≡ l.network
