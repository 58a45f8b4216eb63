-- The lists that were looked at are cut, and their passes taken.
use Rattle.std.proofs.Common.{◌≡◌, List, length, take}
use Rattle.std.specs.Prelude.{All, Some, slice_get}
use Rattle.obim_bags.specs.Bags.{BagSeen, IsPassOf}
use Rattle.obim_bags.specs.Settling.{AreOf, lists_of, passes_in}
use Rattle.obim_bags.proofs.Cuts.{cut}
use Rattle.obim_bags.proofs.settle.claimed.Given as goal

abbrev pub invariant-loop-at : goal.invariant-loop-at
invariant-loop-at l = record {
  count : length l.held.items ≡ length l.initial.held.items;
  held : lists_of l.held.items ≡ cut l.place l.at (lists_of l.initial.held.items);
  passes : l.passes.items ≡ passes_in l.place (take l.at (lists_of l.initial.held.items));
  of_bag : (bags : List BagSeen) (bag : BagSeen) → AreOf bags (lists_of l.initial.held.items)
      → slice_get bags l.place ≡ Some bag
      → All (IsPassOf bag) l.passes.items;
}
