use Rattle.std.proofs.Common.{◌≡◌, ◌≢◌, ◌<◌, ℕ, length}
use Rattle.std.specs.Prelude.{slice_index}
use Rattle.least_costs.specs.Landmarks.{IsCell, column}
use Rattle.least_costs.proofs.network.landmarks.put_column.Given as goal

abbrev pub invariant-loop-v : goal.invariant-loop-v
invariant-loop-v l = record {
  room : length l.cells ≡ length l.fn.cells;
  put : (v : ℕ) → v < l.v → IsCell l.unit (column l.count l.cells l.at v) (slice_index l.labels v);
  others : (i v : ℕ) → i < l.count → i ≢ l.at → column l.count l.cells i v ≡ column l.count l.fn.cells i v;
}
