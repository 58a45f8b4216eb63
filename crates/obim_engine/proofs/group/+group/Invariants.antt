use Rattle.std.proofs.Common.{◌+◌, ◌*◌, length}
use Rattle.obim_engine.proofs.group.+group.Given as goal

abbrev pub decreases-join_mut+arg2 : goal.decreases-join_mut+arg2
decreases-join_mut+arg2 g l = 2 * length l.front.now + 1

abbrev pub decreases-join_mut+arg3 : goal.decreases-join_mut+arg3
decreases-join_mut+arg3 g l = 2 * length l.back.now + 1

abbrev pub decreases-run_group : goal.decreases-run_group
decreases-run_group g l = 2 * length l.sides.now
