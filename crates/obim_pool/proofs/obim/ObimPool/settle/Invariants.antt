-- The mirrors of the sides so far, in their order.
use Rattle.std.proofs.Common.{◌≡◌}
use Rattle.obim_pool.specs.Sides.{mirrors_of}
use Rattle.obim_pool.proofs.obim.ObimPool.settle.Given as goal

abbrev pub invariant-loop-side : goal.invariant-loop-side
invariant-loop-side g l = l.mirrors.items ≡ mirrors_of l.yielded
