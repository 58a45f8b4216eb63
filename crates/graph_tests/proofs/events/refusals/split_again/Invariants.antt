use Rattle.relax_core.specs.State.{IsOf}
use Rattle.graph_tests.proofs.events.refusals.split_again.Given as goal

abbrev pub invariant-loop : goal.invariant-loop
invariant-loop g l = IsOf l.csr l.core
