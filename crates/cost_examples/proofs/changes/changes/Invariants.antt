use Rattle.std.proofs.Common.{◌≡◌, length}
use Rattle.least_costs.specs.Taken.{AreTaken}
use Rattle.cost_examples.specs.Callers.{IsChange}
use Rattle.cost_examples.proofs.changes.changes.Given as goal

abbrev pub invariant-loop-found : goal.invariant-loop-found
invariant-loop-found g l = record {
  net : l.each.net ≡ l.network;
  taken : AreTaken (IsChange l.network l.grown l.target) l.sources l.each.left l.changes.items;
}

abbrev pub decreases-loop-found : goal.decreases-loop-found
decreases-loop-found g l = length l.each.left
