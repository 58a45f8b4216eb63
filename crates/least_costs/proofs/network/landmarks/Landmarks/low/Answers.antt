-- One landmark more.
use Rattle.std.proofs.Common.{◌≡◌, ◌≤◌, ◌∷◌, [], ℕ, arith, inl, inr, length, subst, sym}
use Rattle.std.specs.Prelude.{All}
use Rattle.std.proofs.lemmas.Bool.{cases_lt}
use Rattle.std.proofs.lemmas.List.{get_or_append_left, get_or_push, length_push}
use Rattle.least_costs.specs.Landmarks.{column}
use Rattle.least_costs.proofs.network.landmarks.Landmarks.low.Goals as goal

pub loop-i-preserved : goal.loop-i-preserved
loop-i-preserved c =
    let seen = c.args.self.now in
    let targets = c.args.targets.now in
    let low = c.loop-i.low.items in
    let i = c.loop-i.i in
    let x = c.lowest.result in
    let told : All (λ t. x ≤ column seen.count seen.cells i t) targets =
    rw (← c.self.view_is) (rw (rw (← c.self.view_is) at c.cells.ensures) at c.lowest.ensures) in
    rw c.in_ok-push.ensures.items
    (record {
      count = omega (arith, length_push low x, c.loop-i.invariant.count);
      each = λ j below.
          let Fits = λ (y : ℕ). All (λ t. y ≤ column seen.count seen.cells j t) targets in
          elim (cases_lt j i) [
            | inl here ↦
                subst Fits (sym (get_or_append_left low (x ∷ []) 0 j (omega (arith, here, c.loop-i.invariant.count))))
                (c.loop-i.invariant.each j here)
            | inr past ↦
                let last : length low ≡ j = omega (arith, below, past, c.loop-i.invariant.count) in
                let is : i ≡ j = omega (arith, below, past) in
                subst Fits (sym (get_or_push low x 0 j last))
                (subst (λ (k : ℕ). All (λ t. x ≤ column seen.count seen.cells k t) targets) is told)
          ];
    })
