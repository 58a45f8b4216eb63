use Rattle.std.proofs.Common.{ℕ, List, subst, sym}
use Rattle.std.specs.Prelude.{IfOk}
use Rattle.csr_graph.specs.Graph.{Graph}
use Rattle.route_walks.specs.declared.graph.ArcRec.{ArcRec}
use Rattle.route_walks.specs.Walk.{IsGraph, HaveSameArcs}
use Rattle.route_walks.specs.Operators.{both_ways}
use Rattle.obim_engine.proofs.operators.both_rows.Goals as goal

pub build_both_ways-requires-clause-ends : goal.build_both_ways-requires-clause-ends
build_both_ways-requires-clause-ends g c κs within =
    subst (IsGraph c.n.result) (sym c.in_ok-arcs.ensures)
    (subst (λ (n : ℕ). IsGraph n c.args.csr.now.arcs) (sym c.n.ensures.vertices) c.n.ensures.in_rows.ends)

pub returns-clause-arcs : goal.returns-clause-arcs
returns-clause-arcs g c =
    subst (λ (arcs : List ArcRec). IfOk c.build_both_ways.result
    (λ (rows : Graph). HaveSameArcs rows.arcs (both_ways arcs)))
    c.in_ok-arcs.ensures c.build_both_ways.ensures.arcs
