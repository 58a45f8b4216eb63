-- The rule allows the step.
use Rattle.std.proofs.Common.{ap, arith}
use Rattle.label_words.proofs.Moves.{see_allowed}
use Rattle.label_words.proofs.words.Words.see.Goals as goal

pub load-zero-requires : goal.load-zero-requires
load-zero-requires c =
    let same = rw (← c.seat.view_is, ← c.self.view_is) at c.requires.words in
    let allowed = see_allowed _ c.seat.invariant.0.ready (rw (← c.seat.view_is) at c.requires.idle) in
    (same, omega (arith, ap (λ t. t.words) same), allowed _ _ _ _)
