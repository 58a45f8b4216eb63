use Rattle.std.proofs.Common.{List}
use Rattle.route_walks.specs.declared.graph.ArcRec.{ArcRec}
use Rattle.least_costs.specs.Landmarks.{AreAmong}
use Rattle.least_costs.proofs.network.landmarks.note_between.Given as goal

abbrev pub invariant-loop-arc : goal.invariant-loop-arc
invariant-loop-arc l =
    (arcs : List ArcRec) → AreAmong arcs l.rows.arcs → AreAmong arcs l.fn.noted.items → AreAmong arcs l.noted.items
