-- Each turn notes one more of the arcs that are found, or none.
use Rattle.std.specs.Prelude.{Contains}
use Rattle.std.proofs.lemmas.List.Elements.{All-filter, All-push}
use Rattle.csr_graph.specs.Graph.{row_of}
use Rattle.least_costs.specs.Landmarks.{AreAmong}
use Rattle.least_costs.proofs.network.landmarks.note_between.Goals.{then-not-is_covered+in_ok-push, else-not-is_covered}
use Rattle.least_costs.proofs.network.landmarks.note_between.Goals as goal

pub returns-in_err-push : goal.returns-in_err-push
returns-in_err-push c arcs own old = rw c.in_err-push.ensures.items (c.loop-arc.invariant arcs own old)

pub loop-arc-preserved : goal.loop-arc-preserved
loop-arc-preserved c arcs own old =
    let rows = c.args.rows.now.arcs in
    let found : AreAmong arcs c.deref-arc-items.result.now =
    rw (c.deref-arc-items.ensures.value, c.in_ok-found.ensures)
    (All-filter _ (Contains arcs) (row_of rows c.args.pair.0) (All-filter _ (Contains arcs) rows own)) in
    elim c.if-not-is_covered.branch [
      | then-not-is_covered+in_ok-push w ↦
          rw (w.noted-is, w.in_ok-push.ensures.items)
          (All-push (Contains arcs) c.loop-arc.noted.items _ (c.loop-arc.invariant arcs own old)
          (found c.loop-arc.arc-index _ c.loop-arc-test.true))
      | else-not-is_covered w ↦ rw w.noted-is (c.loop-arc.invariant arcs own old)
    ]
