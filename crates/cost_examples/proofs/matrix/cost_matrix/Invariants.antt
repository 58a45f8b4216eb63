use Rattle.std.proofs.Common.{◌≡◌, length}
use Rattle.least_costs.specs.Taken.{AreTaken}
use Rattle.cost_examples.specs.Callers.{IsRow}
use Rattle.cost_examples.proofs.matrix.cost_matrix.Given as goal

abbrev pub invariant-loop-found : goal.invariant-loop-found
invariant-loop-found g l = record {
  net : l.each.net ≡ l.network;
  taken : AreTaken (λ source row. IsRow l.network l.targets source row.items) l.sources l.each.left l.rows.items;
}

abbrev pub decreases-loop-found : goal.decreases-loop-found
decreases-loop-found g l = length l.each.left
