-- The rule allows the step.
use Rattle.std.proofs.Common.{◌∙◌, sym, ap, arith}
use Rattle.label_words.proofs.Moves.{finish_allowed}
use Rattle.label_words.proofs.words.Words.finish.Goals as goal

pub fetch_sub-requires : goal.fetch_sub-requires
fetch_sub-requires c =
    let same = rw (← c.seat.view_is, ← c.self.view_is) at c.requires.words in
    let row = rw (← c.seat.view_is) at c.requires.open in
    let credits = ap (λ v. v.credits) (sym c.seat.invariant.0.view_is) ∙ sym c.from-credits.ensures in
    let allowed = finish_allowed _ _ c.seat.invariant.0.ready row
    (rw (← c.seat.view_is) at c.requires.row_end) credits in
    (same, omega (arith, ap (λ t. t.words) same), allowed _ _ _ _)
