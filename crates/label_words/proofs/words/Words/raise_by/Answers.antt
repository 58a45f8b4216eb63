-- The rule allows the step.
use Rattle.std.proofs.Common.{ap, arith}
use Rattle.label_words.proofs.Moves.{raise_by_allowed}
use Rattle.label_words.proofs.words.Words.raise_by.Goals as goal

pub fetch_add-requires : goal.fetch_add-requires
fetch_add-requires c =
    let same = rw (← c.seat.view_is, ← c.self.view_is) at c.requires.words in
    let room = rw (← c.seat.view_is) at c.requires.room in
    let allowed = raise_by_allowed _ _ c.seat.invariant.0.ready (rw (← c.seat.view_is) at c.requires.owes) room in
    rw c.from-more.ensures (same, omega (arith, ap (λ t. t.words) same), allowed _ _ _ _)
