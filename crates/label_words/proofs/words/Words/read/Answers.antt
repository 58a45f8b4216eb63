-- The rule allows the step, and the seat is tied again.
use Rattle.std.proofs.Common.{◌∙◌, sym, ap, refl, arith}
use Rattle.relax_core.specs.Views.{vertex_of}
use Rattle.label_words.proofs.Moves.{read_allowed}
use Rattle.label_words.proofs.Ties.{tied}
use Rattle.label_words.proofs.words.Words.read.Goals as goal

pub load-d-requires : goal.load-d-requires
load-d-requires c =
    let tie = c.seat.invariant.0 in
    let same = rw (← c.seat.view_is, ← c.self.view_is) at c.requires.words in
    let fresh = rw (← c.seat.view_is) at c.requires.fresh in
    let vertex = ap vertex_of (ap (λ v. v.hand) (sym tie.view_is) ∙ c.in-Fresh.is) in
    let within = rw fresh at tie.ready.hand in
    rw c.label_word.ensures
    (same, omega (arith, ap (λ t. t.words) same), read_allowed _ _ tie.ready fresh vertex _ _ _ _)

pub invariant_of-seat : goal.invariant_of-seat
invariant_of-seat c =
    let tie = c.seat.invariant.0 in
    let graph = rw (← c.seat.view_is) at c.requires.graph in
    let vertex = ap vertex_of (ap (λ v. v.hand) (sym tie.view_is) ∙ c.in-Fresh.is) in
    let is = ap (λ me. me.0) c.load-d.ensures.2.0 in (
      tied c.load-d.new.seat.me tie c.load-d.ensures.0 is refl
          (rw (c.read.ensures, c.first.ensures.place, graph, ← vertex, tie.view_is) refl) c.load-d.ensures.2.1,
      ap (λ me. me.1) c.load-d.ensures.2.0 ∙ c.seat.invariant.1,
    )
