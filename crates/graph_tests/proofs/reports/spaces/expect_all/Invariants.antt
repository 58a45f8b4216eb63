use Rattle.std.proofs.Common.{◌≡◌}
use Rattle.graph_tests.proofs.reports.spaces.expect_all.Given as goal

abbrev pub invariant-loop-asked : goal.invariant-loop-asked
invariant-loop-asked g l = l.space ≡ l.csr.n
