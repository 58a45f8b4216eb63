use Rattle.std.proofs.Common.{[], refl}
use Rattle.obim_pool.proofs.Lifting.{one_within}
use Rattle.obim_pool.proofs.Putting.{one_puts_then, one_stays}
use Rattle.obim_pool.proofs.push.start_chunk.Goals as goal

pub returns-then-has_room : goal.returns-then-has_room
returns-then-has_room g c = one_stays _ _ _ _ c.requires.place refl

pub returns : goal.returns
returns g c =
    one_puts_then [] [] c.put_filling.ensures
    (one_stays _ _ _ c.open.new.chunks (one_within c.put_filling.ensures) c.open.ensures)
