-- The mirrors stay those of the log.
use Rattle.std.specs.Prelude.{All}
use Rattle.obim_bags.specs.Logs.{IsMirrorOf}
use Rattle.worklist_tests.proofs.bags.logs.expect_calls.Given as goal

abbrev pub invariant-loop-at : goal.invariant-loop-at
invariant-loop-at g l = All (IsMirrorOf l.log) l.mirrors
