-- The sides stay those of the pool.
use Rattle.std.specs.Prelude.{All}
use Rattle.worklist_tests.proofs.pools.calls.expect_calls.Given as goal

abbrev pub invariant-loop-at : goal.invariant-loop-at
invariant-loop-at g l = All (g.P.WorkPool.is_side l.pool) l.sides
