-- One landmark more.
use Rattle.std.proofs.Common.{◌≡◌, ◌≤◌, ◌∷◌, [], ℕ, arith, inl, inr, length, subst, sym}
use Rattle.std.specs.Prelude.{All}
use Rattle.std.proofs.lemmas.Bool.{cases_lt}
use Rattle.std.proofs.lemmas.List.{get_or_append_left, get_or_push, length_push}
use Rattle.least_costs.specs.Landmarks.{column}
use Rattle.least_costs.proofs.network.landmarks.greatest_cells.Goals as goal

pub loop-i-preserved : goal.loop-i-preserved
loop-i-preserved c =
    let cells = c.args.cells.now in
    let count = c.args.count in
    let vertices = c.args.vertices.now in
    let high = c.loop-i.high.items in
    let i = c.loop-i.i in
    let x = c.highest.result in
    rw c.in_ok-push.ensures.items
    (record {
      count = omega (arith, length_push high x, c.loop-i.invariant.count);
      each = λ j below.
          let Fits = λ (y : ℕ). All (λ t. column count cells j t ≤ y) vertices in
          elim (cases_lt j i) [
            | inl here ↦
                subst Fits (sym (get_or_append_left high (x ∷ []) 0 j (omega (arith, here, c.loop-i.invariant.count))))
                (c.loop-i.invariant.each j here)
            | inr past ↦
                let last : length high ≡ j = omega (arith, below, past, c.loop-i.invariant.count) in
                let is : i ≡ j = omega (arith, below, past) in
                subst Fits (sym (get_or_push high x 0 j last))
                (subst (λ (k : ℕ). All (λ t. column count cells k t ≤ x) vertices) is c.highest.ensures)
          ];
    })
