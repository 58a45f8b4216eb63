-- The rule allows the step.
use Rattle.std.proofs.Common.{ap, arith}
use Rattle.label_words.proofs.Moves.{take_allowed}
use Rattle.label_words.proofs.words.Words.take.Goals as goal

pub swap-was_marked-requires : goal.swap-was_marked-requires
swap-was_marked-requires c =
    let same = rw (← c.seat.view_is, ← c.self.view_is) at c.requires.words in
    let vertex = rw (← c.seat.view_is) at c.requires.vertex in
    let free = rw (← c.seat.view_is) at c.requires.no_vertex in
    rw c.mark_word.ensures
    (same, omega (arith, ap (λ t. t.words) same), take_allowed _ _ c.seat.invariant.0.ready free vertex _ _ _ _)
