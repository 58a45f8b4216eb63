-- The rule allows the step.
use Rattle.std.proofs.Common.{ap, arith}
use Rattle.label_words.proofs.Moves.{keep_allowed}
use Rattle.label_words.proofs.words.Words.keep.Goals as goal

pub load-total-requires : goal.load-total-requires
load-total-requires c =
    let same = rw (← c.seat.view_is, ← c.self.view_is) at c.requires.words in
    let row = rw (← c.seat.view_is) at c.requires.open in
    let room = rw (← c.seat.view_is) at c.requires.room in
    let allowed = keep_allowed _ c.seat.invariant.0.ready row (rw (← c.seat.view_is) at c.requires.row_end) room in
    (same, omega (arith, ap (λ t. t.words) same), allowed _ _ _ _)
