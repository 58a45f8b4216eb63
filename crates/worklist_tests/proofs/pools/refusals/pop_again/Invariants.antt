-- The side stays one of the pool.
use Rattle.worklist_tests.proofs.pools.refusals.pop_again.Given as goal

abbrev pub invariant-loop : goal.invariant-loop
invariant-loop g l = g.P.WorkPool.is_side l.pool l.side
