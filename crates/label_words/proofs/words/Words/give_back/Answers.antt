-- The rule allows the step.
use Rattle.std.proofs.Common.{ap, arith}
use Rattle.label_words.proofs.Moves.{give_back_allowed}
use Rattle.label_words.proofs.words.Words.give_back.Goals as goal

pub fetch_sub-requires : goal.fetch_sub-requires
fetch_sub-requires c =
    let same = rw (← c.seat.view_is, ← c.self.view_is) at c.requires.words in
    let held = rw (← c.seat.view_is) at c.requires.kept in
    let some = rw (← c.seat.view_is) at c.requires.credits in
    let allowed = give_back_allowed _ _ c.seat.invariant.0.ready held some in
    rw c.from-less.ensures (same, omega (arith, ap (λ t. t.words) same), allowed _ _ _ _)
