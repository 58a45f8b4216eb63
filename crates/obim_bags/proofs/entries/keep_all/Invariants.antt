-- Passes of the accesses taken were put last.
use Rattle.std.specs.Prelude.{◌≡◌, ◌++◌, All}
use Rattle.obim_bags.specs.BagRule.{shares_of}
use Rattle.obim_bags.specs.Bags.{AreAdded, BagSeen, tallies_of}
use Rattle.obim_bags.specs.Entries.{IsUnclaimed, unclaimed_of}
use Rattle.obim_bags.proofs.entries.keep_all.Given as goal

abbrev pub invariant-loop-place : goal.invariant-loop-place
invariant-loop-place l = record {
  rest : (bag : BagSeen) → All (IsUnclaimed bag) l.initial.unclaimed.items → All (IsUnclaimed bag) l.unclaimed.items;
  added : (bag : BagSeen) → All (IsUnclaimed bag) l.initial.unclaimed.items
      → AreAdded bag l.initial.passes.items l.passes.items;
  shares : shares_of (tallies_of (l.passes.items ++ unclaimed_of l.unclaimed.items))
      ≡ shares_of (tallies_of (l.initial.passes.items ++ unclaimed_of l.initial.unclaimed.items));
}

abbrev pub decreases-loop-place : goal.decreases-loop-place
decreases-loop-place l = goal.left-loop-place l
