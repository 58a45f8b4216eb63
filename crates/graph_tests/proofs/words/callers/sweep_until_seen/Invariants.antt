use Rattle.std.proofs.Common.{◌≡◌}
use Rattle.relax_core.specs.declared.views.Hand.TheVariants.{Idle}
use Rattle.label_words.specs.Callers.{Stays}
use Rattle.graph_tests.proofs.words.callers.sweep_until_seen.Given as goal

abbrev pub invariant-loop : goal.invariant-loop
invariant-loop l = Stays l.fn.seat l.seat × (l.seat.known.view.hand ≡ Idle)
