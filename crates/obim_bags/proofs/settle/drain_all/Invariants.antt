-- The bags from a place on are drained, and the lists end before it.
use Rattle.std.proofs.Common.{◌≡◌, ℕ, ◌+◌, ◌<◌, ◌≤◌, List, length, reverse}
use Rattle.std.specs.Prelude.{All, slice_get}
use Rattle.obim_bags.specs.Logs.{AccessSeen}
use Rattle.obim_bags.specs.Entries.{bags_of}
use Rattle.obim_bags.specs.Settling.{AreDrainedFrom, AreOf, AreWholeFrom, lists_of, passes_in}
use Rattle.obim_bags.proofs.settle.drain_all.Given as goal

abbrev pub invariant-loop-place : goal.invariant-loop-place
invariant-loop-place g l = record {
  bags : bags_of l.entries ≡ bags_of l.initial.entries;
  held : AreOf (bags_of l.entries) (lists_of l.held.items);
  short : All (λ (accesses : List AccessSeen). length accesses ≤ l.place) (lists_of l.held.items);
  passes : (place : ℕ) → place < l.place
      → passes_in place (lists_of l.held.items) ≡ passes_in place (lists_of l.fn.held.items);
  count : length l.parts.items + l.place ≡ length (bags_of l.entries);
  rest : (place : ℕ) → place < l.place → slice_get l.entries.list place ≡ slice_get l.initial.entries.list place;
  whole : AreWholeFrom l.place (lists_of l.fn.held.items) l.initial.entries;
  drained : AreDrainedFrom l.place (lists_of l.fn.held.items) (reverse (lists_of l.parts.items));
}

abbrev pub decreases-loop-place : goal.decreases-loop-place
decreases-loop-place g l = l.place
