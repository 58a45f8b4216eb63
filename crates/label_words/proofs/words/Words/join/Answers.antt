-- The rule allows the step.
use Rattle.std.proofs.Common.{ap, arith}
use Rattle.label_words.proofs.Moves.{joins}
use Rattle.label_words.proofs.words.Words.join.Goals as goal

pub join_seat-requires : goal.join_seat-requires
join_seat-requires c =
    let same = rw (← c.seat.view_is, ← c.self.view_is) at c.requires.words.0 in
    let same' = rw (← c.other.view_is, ← c.self.view_is) at c.requires.words.1 in
    let idle = rw (← c.seat.view_is) at c.requires.idle in
    let idle' = rw (← c.other.view_is) at c.requires.other_idle in
    let allowed = joins _ _ _ _ _ _ c.seat.invariant.0.ready c.other.invariant.0.ready idle idle' in
    (same, same', c.other.invariant.1, omega (arith, ap (λ t. t.words) same), allowed)
