use Rattle.std.proofs.Common.{◌-◌}
use Rattle.csr_graph.specs.Graph.{end_place}
use Rattle.label_words.specs.Callers.{Stays, HasRowOpen}
use Rattle.relax_core.specs.Views.{place_of}
use Rattle.graph_tests.proofs.words.callers.relax_row.Given as goal

abbrev pub invariant-loop : goal.invariant-loop
invariant-loop l = Stays l.fn.seat l.seat × HasRowOpen l.u l.seat.known.view

abbrev pub decreases-loop : goal.decreases-loop
decreases-loop l = end_place l.csr.arcs l.u - place_of l.seat.known.view.hand
