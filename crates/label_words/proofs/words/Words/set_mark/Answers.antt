-- The rule allows the step.
use Rattle.std.proofs.Common.{◌∙◌, sym, ap, arith}
use Rattle.relax_core.specs.Views.{owed_of}
use Rattle.label_words.proofs.Moves.{set_mark_allowed}
use Rattle.label_words.proofs.words.Words.set_mark.Goals as goal

pub swap-was_marked-requires : goal.swap-was_marked-requires
swap-was_marked-requires c =
    let tie = c.seat.invariant.0 in
    let same = rw (← c.seat.view_is, ← c.self.view_is) at c.requires.words in
    let owe = rw (← c.seat.view_is) at c.requires.owes in
    let head = ap owed_of (ap (λ v. v.hand) (sym tie.view_is) ∙ c.in-Owe.is) in
    let vertex = (rw owe at tie.ready.hand).2 in
    let credits = rw (← c.seat.view_is) at c.requires.credits in
    rw c.mark_word.ensures
    (same, omega (arith, ap (λ t. t.words) same), set_mark_allowed _ _ tie.ready owe credits head _ _ _ _)
