use Rattle.std.proofs.Common.{◌≤◌, take}
use Rattle.std.specs.Prelude.{All}
use Rattle.least_costs.specs.Landmarks.{column}
use Rattle.least_costs.proofs.network.landmarks.lowest.Given as goal

abbrev pub invariant-loop-vertex : goal.invariant-loop-vertex
invariant-loop-vertex l = All (λ t. l.least ≤ column l.count l.cells l.i t) (take l.vertex-index l.vertices)
