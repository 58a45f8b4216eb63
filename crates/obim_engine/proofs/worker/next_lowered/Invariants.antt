use Rattle.std.proofs.Common.{◌-◌, ◌≤◌}
use Rattle.csr_graph.specs.Graph.{end_place}
use Rattle.label_words.specs.Callers.{Stays, HasRowOpen}
use Rattle.relax_core.specs.Views.{place_of}
use Rattle.obim_engine.proofs.worker.next_lowered.Given as goal

abbrev pub invariant-loop-head : goal.invariant-loop-head
invariant-loop-head l =
    Stays l.fn.seat l.seat
    × HasRowOpen l.u l.seat.known.view
    × (place_of l.fn.seat.known.view.hand ≤ place_of l.seat.known.view.hand)

abbrev pub decreases-loop-head : goal.decreases-loop-head
decreases-loop-head l = end_place l.csr.arcs l.u - place_of l.seat.known.view.hand
