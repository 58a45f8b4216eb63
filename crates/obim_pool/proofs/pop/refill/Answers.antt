use Rattle.std.proofs.Common.{◌∙◌, ap}
use Rattle.obim_pool.specs.declared.chunks.BagChunks.{BagChunks}
use Rattle.obim_pool.specs.Steps.{FindsEmpty}
use Rattle.obim_pool.proofs.Drawing.{drains_some, drain_filling_finds}
use Rattle.obim_pool.proofs.pop.refill.Goals as goal
use Rattle.obim_pool.proofs.pop.refill.Goals.{in-Some, in-None}

pub returns-clause-none : goal.returns-clause-none
returns-clause-none g c =
    let last = c.take_last.ensures in
    let mid = c.match-get_boxed_at.chunks in
    let new = c.take_last.new.self in
    elim c.match-get_boxed_at.branch [
      | in-Some w ↦ drains_some
          (FindsEmpty c.args.place c.args.mirror.now c.args.chunks.now c.get_boxed_at.new.mirror new) mid new
          w.in-Some.chunk c.take_last.result
          (ap (λ (k : BagChunks). k.draining) w.chunks-is ∙ w.drain.ensures.draining)
          w.in-Some.ensures.filled last.filling last.unchanged last.empty
      | in-None w ↦ drain_filling_finds c.args.place c.args.mirror.now c.get_boxed_at.new.mirror c.args.chunks.now mid
          new c.take_last.result
          w.in-None.ensures.found_empty w.in-None.ensures.alone (rw w.chunks-is w.drain_filling.ensures.same)
          (ap (λ (k : BagChunks). k.filling) w.chunks-is ∙ w.drain_filling.ensures.filling) last.filling last.unchanged
          last.empty
    ]
