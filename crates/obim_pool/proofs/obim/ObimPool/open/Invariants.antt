-- A new side over each mirror so far, in their order, and as many workers.
use Rattle.std.proofs.Common.{◌≡◌, length, map}
use Rattle.obim_pool.proofs.Popping.{side_over}
use Rattle.obim_pool.proofs.obim.ObimPool.open.Given as goal

abbrev pub invariant-loop-mirror : goal.invariant-loop-mirror
invariant-loop-mirror l = record {
  sides : l.sides.items ≡ map side_over l.yielded;
  worker : l.worker ≡ length l.yielded;
}
