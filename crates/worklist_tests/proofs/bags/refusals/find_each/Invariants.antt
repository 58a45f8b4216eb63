-- Two mirrors stay those of the log.
use Rattle.std.specs.Prelude.{◌≡◌, All, length}
use Rattle.obim_bags.specs.Logs.{IsMirrorOf}
use Rattle.worklist_tests.proofs.bags.refusals.find_each.Given as goal

abbrev pub invariant-loop-turn : goal.invariant-loop-turn
invariant-loop-turn g l = All (IsMirrorOf l.log) l.mirrors × (length l.mirrors ≡ 2)
