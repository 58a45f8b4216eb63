use Rattle.obim_pool.proofs.pop.scan.Given as goal
use Rattle.obim_pool.proofs.Looking.{Tried}

abbrev pub invariant-loop-at : goal.invariant-loop-at
invariant-loop-at g l = Tried l.at-index l.order l.fn.mirror l.fn.chunks.items l.mirror l.chunks.items
