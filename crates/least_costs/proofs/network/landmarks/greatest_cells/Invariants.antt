use Rattle.std.proofs.Common.{◌≡◌, ◌<◌, ◌≤◌, ℕ, length}
use Rattle.std.specs.Prelude.{All, slice_index}
use Rattle.least_costs.specs.Landmarks.{column}
use Rattle.least_costs.proofs.network.landmarks.greatest_cells.Given as goal

abbrev pub invariant-loop-i : goal.invariant-loop-i
invariant-loop-i l = record {
  count : length l.high.items ≡ l.i;
  each : (j : ℕ) → j < l.i → All (λ t. column l.count l.cells j t ≤ slice_index l.high.items j) l.vertices;
}
