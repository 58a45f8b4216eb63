use Rattle.std.proofs.Common.{◌≡◌, ◌<◌, ◌≤◌, ℕ, length}
use Rattle.std.specs.Prelude.{All, slice_index}
use Rattle.least_costs.specs.Landmarks.{column}
use Rattle.least_costs.proofs.network.landmarks.Landmarks.low.Given as goal

abbrev pub invariant-loop-i : goal.invariant-loop-i
invariant-loop-i l = record {
  count : length l.low.items ≡ l.i;
  each : (j : ℕ) → j < l.i → All (λ t. slice_index l.low.items j ≤ column l.self.count l.self.cells j t) l.targets;
}
