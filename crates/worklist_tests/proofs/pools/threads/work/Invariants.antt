-- The side stays one of the pool.
use Rattle.worklist_tests.proofs.pools.threads.work.Given as goal

abbrev pub invariant-loop-at : goal.invariant-loop-at
invariant-loop-at g l = g.P.WorkPool.is_side l.pool l.side
