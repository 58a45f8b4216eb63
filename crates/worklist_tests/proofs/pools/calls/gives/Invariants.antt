-- The side stays one of the pool.
use Rattle.worklist_tests.proofs.pools.calls.gives.Given as goal

abbrev pub invariant-loop-want : goal.invariant-loop-want
invariant-loop-want g l = g.P.WorkPool.is_side l.pool l.side
