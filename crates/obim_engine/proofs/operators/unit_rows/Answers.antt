use Rattle.std.proofs.Common.{◌∙◌, ℕ, List, subst, sym, ap}
use Rattle.std.specs.Prelude.{IfOk}
use Rattle.csr_graph.specs.Graph.{Graph}
use Rattle.route_walks.specs.declared.graph.ArcRec.{ArcRec}
use Rattle.route_walks.specs.Walk.{IsGraph, HaveSameArcs}
use Rattle.route_walks.specs.Operators.{unit_weights}
use Rattle.obim_engine.proofs.operators.unit_rows.Goals as goal

pub build-requires-clause-ends : goal.build-requires-clause-ends
build-requires-clause-ends c =
    let arcs = c.deref.ensures.value ∙ c.in_ok-arcs.ensures in
    subst (IsGraph c.n.result) (sym c.deref-2.ensures.value)
    (c.in_ok-units.ensures.graph c.n.result
    (subst (IsGraph c.n.result) (sym arcs)
    (subst (λ (n : ℕ). IsGraph n c.args.csr.now.arcs) (sym c.n.ensures.vertices) c.n.ensures.in_rows.ends)))

pub returns-clause-arcs : goal.returns-clause-arcs
returns-clause-arcs c =
    let given = c.deref-2.ensures.value ∙ c.in_ok-units.ensures.exact
    ∙ ap unit_weights (c.deref.ensures.value ∙ c.in_ok-arcs.ensures) in
    subst (λ (arcs : List ArcRec). IfOk c.build.result (λ (rows : Graph). HaveSameArcs rows.arcs arcs)) given
    c.build.ensures.arcs
