use Rattle.std.proofs.Common.{refl}
use Rattle.obim_pool.proofs.Putting.{one_hands_on, one_put_back}
use Rattle.obim_pool.proofs.push.put_filling.Goals as goal

pub returns-in_default : goal.returns-in_default
returns-in_default g c = one_put_back _ _ _ _ _ c.requires.place (cc) refl refl

pub returns-then-len-eq0 : goal.returns-then-len-eq0
returns-then-len-eq0 g c = one_put_back _ _ _ _ _ c.requires.place (cc) refl refl

pub returns-in-Err : goal.returns-in-Err
returns-in-Err g c =
    one_put_back _ _ _ _ _ c.requires.place (cc (c.in-Err.ensures.returned)) refl c.in-Err.ensures.refused

pub returns-in-Ok : goal.returns-in-Ok
returns-in-Ok g c = one_hands_on _ _ _ _ _ c.in-Some.chunk (cc) c.take.ensures.after refl c.in-Ok.ensures.put
