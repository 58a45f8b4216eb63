use Rattle.std.proofs.Common.{ℕ, subst}
use Rattle.std.specs.Prelude.{All, slice_index}
use Rattle.route_walks.specs.Label.{IsLeast}
use Rattle.route_walks.specs.Operators.{seeds_from}
use Rattle.csr_graph.specs.Bounds.{AreBounds}
use Rattle.label_words.specs.Closed.{closed_labels}
use Rattle.csr_graph.specs.Graph.{Graph}
use Rattle.least_costs.proofs.workers.Workers.reach_by.Goals as goal

pub returns-clause-least : goal.returns-clause-least
returns-clause-least g c =
    let net = c.args.network.now in
    let labels = closed_labels c.in_ok-reached.reached.closed in
    let are =
    subst (λ (graph : Graph). AreBounds graph c.toward-bounds.result) c.requires.landmarks
    c.toward-bounds.ensures.bounds in
    subst (All (λ (t : ℕ). IsLeast net.arcs (seeds_from c.args.source) t (slice_index labels t)))
    c.toward-bounds.ensures.targets (c.in_ok-reached.ensures.wanted are)
