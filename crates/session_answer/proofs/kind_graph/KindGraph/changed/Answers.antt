use Rattle.std.proofs.Common.{◌≡◌, ◌∙◌, ◌++◌, List, ap, refl, subst, sym}
use Rattle.route_walks.specs.declared.graph.ArcRec.{ArcRec}
use Rattle.least_costs.specs.declared.cost.Cost.{Cost}
use Rattle.least_costs.specs.declared.cost.Cost.TheVariants.{Weight}
use Rattle.csr_graph.specs.Changes.{without}
use Rattle.least_costs.specs.Network.{HasArcs, IsNetworkOf, arcs_of}
use Rattle.session_answer.specs.Changes.{arcs_left, change_seen, changed_by}
use Rattle.session_answer.proofs.kind_graph.KindGraph.changed.Goals as goal

pub returns-clause-arcs : goal.returns-clause-arcs
returns-clause-arcs c graph holds has =
    let change = change_seen c.args.change.now in
    let added = c.added-added.result.now in
    let left = without c.removed-removed.result.now graph.arcs in
    let arcs : (changed_by graph change).arcs ≡ left ++ added =
    c.added-added.ensures.arcs (arcs_left change.removed graph.arcs)
    ∙ ap (λ (l : List ArcRec). l ++ added) (c.removed-removed.ensures graph.arcs) in
    subst (λ (l : List ArcRec). HasArcs l c.in-Ok.network) (sym arcs)
    (subst (λ (kind : Cost). HasArcs (left ++ arcs_of kind added) c.in-Ok.network) holds.network.kind_is
    (c.in-Ok.ensures.arcs graph.arcs has))

pub returns-clause-holds : goal.returns-clause-holds
returns-clause-holds c graph holds has =
    let change = change_seen c.args.change.now in
    let added = c.added-added.result.now in
    let left = without c.removed-removed.result.now graph.arcs in
    let arcs : (changed_by graph change).arcs ≡ left ++ added =
    c.added-added.ensures.arcs (arcs_left change.removed graph.arcs)
    ∙ ap (λ (l : List ArcRec). l ++ added) (c.removed-removed.ensures graph.arcs) in
    record {
      network =
          subst (λ (l : List ArcRec). IsNetworkOf graph.n Weight l c.in-Ok.network) (sym arcs)
          (c.in-Ok.ensures.network graph.n graph.arcs holds.network);
      alone = refl;
      count =
          (rw c.rows.ensures at c.arc_count-count.ensures.places)
          ∙ (returns-clause-arcs c graph holds has).count;
    }
