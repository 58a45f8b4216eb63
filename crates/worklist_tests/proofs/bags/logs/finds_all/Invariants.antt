-- The mirror stays one of the log.
use Rattle.std.proofs.Common.{◌≡◌}
use Rattle.worklist_tests.proofs.bags.logs.finds_all.Given as goal

abbrev pub invariant-loop-place : goal.invariant-loop-place
invariant-loop-place g l = l.mirror.log ≡ l.log
