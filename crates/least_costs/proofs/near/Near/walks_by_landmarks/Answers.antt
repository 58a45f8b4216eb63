use Rattle.std.proofs.Common.{subst}
use Rattle.csr_graph.specs.Bounds.{AreBounds}
use Rattle.csr_graph.specs.Graph.{Graph}
use Rattle.least_costs.proofs.near.Near.walks_by_landmarks.Goals as goal

pub walks_toward-found-requires-clause-bounds : goal.walks_toward-found-requires-clause-bounds
walks_toward-found-requires-clause-bounds c =
    subst (λ (graph : Graph). AreBounds graph c.toward-bounds.result) c.requires.landmarks
    c.toward-bounds.ensures.bounds
