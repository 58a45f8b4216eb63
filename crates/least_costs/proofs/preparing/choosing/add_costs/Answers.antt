-- Labels that are least are relaxed along each arc.
use Rattle.std.proofs.Common.{List, subst, sym, ℕ}
use Rattle.std.specs.Prelude.{All, slice_index}
use Rattle.csr_graph.specs.Graph.{Graph}
use Rattle.route_walks.specs.Label.{IsRelaxed}
use Rattle.route_walks.proofs.Facts.{least_labels_are_settled}
use Rattle.least_costs.specs.Network.{seeds_at}
use Rattle.least_costs.proofs.Starts.{start-seeds}
use Rattle.least_costs.proofs.preparing.choosing.add_costs.Goals as goal

pub add-requires-clause-relaxed : goal.add-requires-clause-relaxed
add-requires-clause-relaxed c =
    let costs = c.args.costs.now in
    let all = c.start.ensures.costs in
    let settled = least_labels_are_settled costs.net.n costs.net.arcs (seeds_at costs.net.n costs.start)
    (slice_index costs.labels) all.network.ends (start-seeds costs.net.n costs.start all.within) all.least.least in
    subst (λ (graph : Graph). All (IsRelaxed (slice_index c.labels-labels.result.now)) graph.arcs) (sym c.requires.graph)
    (subst (λ (labels : List ℕ). All (IsRelaxed (slice_index labels)) costs.net.arcs) (sym c.labels-labels.ensures.labels)
    settled.1.relaxed)
