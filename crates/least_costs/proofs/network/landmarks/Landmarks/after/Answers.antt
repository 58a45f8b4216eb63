-- What the changed graph has, and what is gone, is covered by what the cells count in.
use Rattle.std.proofs.Common.{◌≡◌, ◌∙◌, ap, subst, sym}
use Rattle.csr_graph.specs.Graph.{Graph}
use Rattle.least_costs.specs.Landmarks.{AreAmong, AreCovered, LandmarksSeen, counted_in}
use Rattle.least_costs.proofs.Covering.{among-left, covered-after, landmarks-after}
use Rattle.least_costs.proofs.network.landmarks.Landmarks.after.Goals as goal

pub invariant_of-result : goal.invariant_of-result
invariant_of-result c =
    let inside = c.self.inside in
    let seen : LandmarksSeen = record {
      graph = inside.of.value;
      count = inside.count;
      cells = inside.cells.value.items;
      unit = inside.unit;
      is_two_way = inside.is_two_way;
      gone = inside.gone.items;
    } in
    let gone = c.in-Ok.gone.items in
    let before = c.args.before.now in
    let after = c.args.after.now in
    let is : seen.graph ≡ before = rw (← c.self.view_is) at c.requires.before in
    let out : AreAmong (counted_in seen) gone = rw (← c.self.view_is) at c.in-Ok.ensures in
    let come : AreCovered c.args.added.now gone =
    rw c.deref.ensures.value at (c.are_covered.ensures c.if-not-are_covered.false) in
    rw (c.of.ensures, c.in-Ok-try_clone.ensures)
    (landmarks-after seen after gone c.self.invariant c.requires.light
    (c.requires.vertices ∙ ap (λ (graph : Graph). graph.n) (sym is))
    (covered-after before.arcs after.arcs c.args.added.now gone (counted_in seen) c.args.removed.now
    (subst (λ (graph : Graph). AreAmong (counted_in seen) graph.arcs) is (among-left seen.graph.arcs seen.gone)) out come
    c.requires.arcs))
