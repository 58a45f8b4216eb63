use Rattle.std.proofs.Common.{◌-◌}
use Rattle.csr_graph.specs.Graph.{end_place}
use Rattle.label_words.specs.Callers.{Stays, HasRowOpen}
use Rattle.relax_core.specs.Views.{place_of}
use Rattle.obim_engine.proofs.worker.visit.Given as goal

abbrev pub invariant-loop-head : goal.invariant-loop-head
invariant-loop-head g l =
    Stays l.fn.seat l.seat
    × HasRowOpen l.u l.seat.known.view
    × g.P.WorkPool.is_side l.shared.run.pool.now l.side

abbrev pub decreases-loop-head : goal.decreases-loop-head
decreases-loop-head g l = end_place l.shared.run.csr.now.arcs l.u - place_of l.seat.known.view.hand
