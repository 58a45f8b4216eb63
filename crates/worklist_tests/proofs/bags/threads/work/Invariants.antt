-- The mirror stays one of the log.
use Rattle.std.proofs.Common.{◌≡◌}
use Rattle.worklist_tests.proofs.bags.threads.work.Given as goal

abbrev pub invariant-loop-serial : goal.invariant-loop-serial
invariant-loop-serial g l = l.mirror.log ≡ l.log
