-- What was learnt is a beginning of all metrics.
use Rattle.std.proofs.Common.{length, ◌-◌}
use mathlib.Core.List.{IsPrefix}
use Rattle.obim_bags.specs.Logs.{metrics_of}
use Rattle.obim_bags.specs.Entries.{bags_of}
use Rattle.obim_bags.proofs.accesses.learn.Given as goal

abbrev pub invariant-loop-index : goal.invariant-loop-index
invariant-loop-index l = record {
  grown : IsPrefix l.initial.index l.index;
  some : IsPrefix l.index (metrics_of (bags_of l.entries));
}

abbrev pub decreases-loop-index : goal.decreases-loop-index
decreases-loop-index l = length l.entries.list - length l.index
