-- Two mirrors stay those of the log.
use Rattle.std.specs.Prelude.{◌≡◌, All, length}
use Rattle.obim_bags.specs.Logs.{IsMirrorOf}
use Rattle.worklist_tests.proofs.bags.refusals.append_each.Given as goal

abbrev pub invariant-loop-metric : goal.invariant-loop-metric
invariant-loop-metric g l = All (IsMirrorOf l.log) l.mirrors × (length l.mirrors ≡ 2)
