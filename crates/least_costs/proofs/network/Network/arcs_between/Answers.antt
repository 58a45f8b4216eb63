use Rattle.std.proofs.Common.{◌∙◌, ap, subst, sym, filter}
use Rattle.std.specs.Prelude.{◌==◌}
use Rattle.std.proofs.lemmas.List.Elements.{All-filter}
use Rattle.csr_graph.specs.Graph.{row_of}
use Rattle.route_walks.specs.declared.graph.ArcRec.{ArcRec}
use Rattle.route_walks.specs.Walk.{IsArcBelow, IsGraph}
use Rattle.least_costs.specs.Network.{NetworkSeen}
use Rattle.least_costs.proofs.SameRows.{between_rows}
use Rattle.least_costs.proofs.network.Network.arcs_between.Goals as goal

pub returns-clause-arcs : goal.returns-clause-arcs
returns-clause-arcs c arcs has =
    c.in_ok-found.ensures
    ∙ ap (λ (w : NetworkSeen). filter (λ (arc : ArcRec). arc.head == c.args.head) (row_of w.arcs c.args.tail)) c.self.view_is
    ∙ between_rows arcs c.args.self.now c.args.tail c.args.head has c.requires

pub returns-clause-ends : goal.returns-clause-ends
returns-clause-ends c =
    let rows = c.self.inside.rows in
    subst (λ (w : NetworkSeen). IsGraph w.n c.in_ok-found.found.items) c.self.view_is
    (subst (IsGraph rows.n) (sym c.in_ok-found.ensures)
    (All-filter _ (IsArcBelow rows.n) (row_of rows.arcs c.args.tail)
    (All-filter _ (IsArcBelow rows.n) rows.arcs c.self.invariant.network.ends)))
