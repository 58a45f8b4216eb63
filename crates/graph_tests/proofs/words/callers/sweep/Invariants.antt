use Rattle.std.proofs.Common.{◌≡◌}
use Rattle.relax_core.specs.declared.views.Hand.TheVariants.{Idle}
use Rattle.label_words.specs.Callers.{Stays}
use Rattle.graph_tests.proofs.words.callers.sweep.Given as goal

abbrev pub invariant-loop-u : goal.invariant-loop-u
invariant-loop-u l = Stays l.fn.seat l.seat × (l.seat.known.view.hand ≡ Idle)
