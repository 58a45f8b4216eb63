-- The side stays one of the pool.
use Rattle.worklist_tests.proofs.pools.calls.takes.Given as goal

abbrev pub invariant-loop-v : goal.invariant-loop-v
invariant-loop-v g l = g.P.WorkPool.is_side l.pool l.side
