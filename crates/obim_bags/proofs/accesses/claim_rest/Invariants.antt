-- The accesses claimed are new, and those of the entries left are there.
use Rattle.std.proofs.Common.{◌≡◌, ◌≤◌, length, ◌-◌}
use mathlib.Core.List.{IsPrefix}
use Rattle.obim_bags.specs.Logs.{bags_in}
use Rattle.obim_bags.specs.Entries.{bags_of, HasAccessesFrom}
use Rattle.obim_bags.specs.Accesses.{AreGained}
use Rattle.obim_bags.proofs.accesses.claim_rest.Given as goal

abbrev pub invariant-loop-entries : goal.invariant-loop-entries
invariant-loop-entries l = record {
  entries : bags_of l.entries ≡ bags_of l.initial.entries;
  gained : AreGained l.initial.list.items l.list.items;
  list : IsPrefix (bags_in l.list.items) (bags_of l.entries);
  there : HasAccessesFrom l.worker (length l.list.items) l.entries;
  room : length l.entries.list ≤ l.list.cap;
}

abbrev pub decreases-loop-entries : goal.decreases-loop-entries
decreases-loop-entries l = length l.entries.list - length l.list.items
