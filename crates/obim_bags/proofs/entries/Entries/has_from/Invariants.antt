-- Each entry looked at has the worker's place.
use Rattle.std.proofs.Common.{ℕ, ◌≤◌, ◌<◌, ◌-◌, length}
use Rattle.obim_bags.specs.Entries.{HasAccessAt}
use Rattle.obim_bags.proofs.entries.Entries.has_from.Given as goal

abbrev pub invariant-loop-place : goal.invariant-loop-place
invariant-loop-place l = record {
  begun : l.first ≤ l.place;
  there : (place : ℕ) → l.first ≤ place → place < l.place → HasAccessAt l.worker place l.self;
}

abbrev pub decreases-loop-place : goal.decreases-loop-place
decreases-loop-place l = length l.self.list - l.place
