-- The rule allows the step.
use Rattle.std.proofs.Common.{ap, arith}
use Rattle.label_words.proofs.Moves.{raise_allowed}
use Rattle.label_words.proofs.words.Words.raise.Goals as goal

pub fetch_add-requires : goal.fetch_add-requires
fetch_add-requires c =
    let same = rw (← c.seat.view_is, ← c.self.view_is) at c.requires.words in
    let credit = rw (← c.seat.view_is) at c.requires.credit in
    let allowed = raise_allowed _ c.seat.invariant.0.ready (rw (← c.seat.view_is) at c.requires.owes) credit in
    (same, omega (arith, ap (λ t. t.words) same), allowed _ _ _ _)
