-- It is a side of the pool.
use Rattle.obim_pool.specs.Sides.{IsSideOf}
use Rattle.worklist_tests.proofs.pools.callers.pop_to_end.Given as goal

abbrev pub invariant-loop : goal.invariant-loop
invariant-loop g l = IsSideOf l.pool l.side
