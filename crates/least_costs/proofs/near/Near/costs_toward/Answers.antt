use Rattle.std.proofs.Common.{subst}
use Rattle.csr_graph.specs.Bounds.{AreBounds}
use Rattle.csr_graph.specs.Graph.{Graph}
use Rattle.least_costs.proofs.near.Near.costs_toward.Goals as goal

pub labels_toward-labels-requires-clause-bounds : goal.labels_toward-labels-requires-clause-bounds
labels_toward-labels-requires-clause-bounds c =
    subst (λ (graph : Graph). AreBounds graph c.toward-bounds.result) c.requires.landmarks
    c.toward-bounds.ensures.bounds
