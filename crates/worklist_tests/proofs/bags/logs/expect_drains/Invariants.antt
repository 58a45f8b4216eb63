-- The mirrors that are left stay those of the log.
use Rattle.std.specs.Prelude.{All}
use Rattle.obim_bags.specs.Logs.{IsMirrorOf}
use Rattle.worklist_tests.proofs.bags.logs.expect_drains.Given as goal

abbrev pub invariant-loop-handed : goal.invariant-loop-handed
invariant-loop-handed g l = All (IsMirrorOf l.log) l.mirrors.items
