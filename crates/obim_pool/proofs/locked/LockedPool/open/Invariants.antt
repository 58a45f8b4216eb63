use Rattle.std.proofs.Common.{◌≡◌, vec_len}
use Rattle.obim_pool.proofs.locked.LockedPool.open.Given as goal

abbrev pub invariant-loop : goal.invariant-loop
invariant-loop l = vec_len l.sides ≡ l.counter
