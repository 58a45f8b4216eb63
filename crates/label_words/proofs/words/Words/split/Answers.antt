-- The rule allows the step.
use Rattle.std.proofs.Common.{ap, arith}
use Rattle.label_words.proofs.Moves.{splits}
use Rattle.label_words.proofs.words.Words.split.Goals as goal

pub split_seat-table_seat-requires : goal.split_seat-table_seat-requires
split_seat-table_seat-requires c =
    let same = rw (← c.seat.view_is, ← c.self.view_is) at c.requires.words in
    let share = rw (← c.seat.view_is) at c.requires.share in
    let allowed = splits _ _ _ _ c.seat.invariant.0.ready (rw (← c.seat.view_is) at c.requires.idle) share in
    (same, omega (arith, ap (λ t. t.words) same), allowed)
