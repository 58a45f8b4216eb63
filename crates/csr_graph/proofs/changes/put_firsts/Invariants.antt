use Rattle.std.proofs.Common.{◌≡◌, List}
use Rattle.route_walks.specs.declared.graph.ArcRec.{ArcRec}
use Rattle.csr_graph.specs.Graph.{first_place}
use Rattle.csr_graph.specs.Removal.{AreFirsts, HaveRowsBetween}
use Rattle.csr_graph.proofs.changes.put_firsts.Given as goal

abbrev pub invariant-loop-u : goal.invariant-loop-u
invariant-loop-u l =
    (arcs : List ArcRec) → HaveRowsBetween l.from l.to arcs l.rows.arcs → l.base ≡ first_place arcs l.from
    → AreFirsts l.from arcs l.fn.firsts.items → AreFirsts l.u arcs l.firsts.items
