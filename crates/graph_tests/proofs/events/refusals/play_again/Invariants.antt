use Rattle.relax_core.specs.State.{IsOf}
use Rattle.graph_tests.proofs.events.refusals.play_again.Given as goal

abbrev pub invariant-loop-i : goal.invariant-loop-i
invariant-loop-i g l = IsOf l.csr l.core
