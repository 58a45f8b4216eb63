use Rattle.std.proofs.Common.{[], ◌∷◌, refl}
use Rattle.obim_pool.proofs.Lifting.{one_within}
use Rattle.obim_pool.proofs.Putting.{one_adds, one_puts_then, one_stays}
use Rattle.obim_pool.proofs.push.push_at.Goals as goal

pub returns-then-not-add-clause-refused : goal.returns-then-not-add-clause-refused
returns-then-not-add-clause-refused g c =
    one_puts_then [] [] c.start_chunk.ensures
    (one_stays _ _ _ c.add.new.self (one_within c.start_chunk.ensures) c.if-not-add.ensures.unchanged)

pub returns-else-filled-size-clause-pushed : goal.returns-else-filled-size-clause-pushed
returns-else-filled-size-clause-pushed g c =
    one_adds c.args.v c.start_chunk.new.chunks c.add.new.self c.start_chunk.ensures refl c.if-not-add.ensures.added

pub returns-then-filled-size-clause-pushed : goal.returns-then-filled-size-clause-pushed
returns-then-filled-size-clause-pushed g c =
    one_puts_then (c.args.v ∷ []) []
    (one_adds c.args.v c.start_chunk.new.chunks c.add.new.self c.start_chunk.ensures refl c.if-not-add.ensures.added)
    c.put_filling.ensures
