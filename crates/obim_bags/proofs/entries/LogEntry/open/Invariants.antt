-- The passes left are new passes of the bag, and each place is unclaimed.
use Rattle.std.proofs.Common.{◌≡◌, length}
use Rattle.std.specs.Prelude.{All}
use Rattle.obim_bags.specs.Bags.{PassSeen, new_pass}
use Rattle.obim_bags.specs.Entries.{IsUnclaimed}
use Rattle.obim_bags.proofs.entries.LogEntry.open.Given as goal

abbrev pub invariant-loop-pass : goal.invariant-loop-pass
invariant-loop-pass g l = record {
  bag : l.bag.value ≡ l.initial.bag.value;
  passes : All (λ (pass : PassSeen). pass ≡ new_pass l.bag.value) l.passes.items;
  unclaimed : All (IsUnclaimed l.bag.value) l.unclaimed.items;
}

abbrev pub decreases-loop-pass : goal.decreases-loop-pass
decreases-loop-pass g l = length l.passes.items
