-- The greatest of some differences is one of them.
use Rattle.std.proofs.Common.{◌≡◌, ◌∙◌, ℕ, ◌+◌, ◌-◌, ◌*◌, ◌<◌, ◌≤◌, ap, arith, drop, get_or, inl, inr, length, subst, sym}
use Rattle.std.specs.Prelude.{slice_index}
use Rattle.std.proofs.lemmas.Bool.{cases_lt}
use Rattle.std.proofs.lemmas.List.{get_or-drop, get_or-take}
use Rattle.route_walks.specs.Walk.{cost}
use Rattle.csr_graph.specs.Bounds.{bound_of, cell_of}
use Rattle.csr_graph.proofs.bounds.Bounds.bound.Goals as goal

-- what is so of two numbers is so of the greater
greater : (P : ℕ → Type 0) (x y most : ℕ) → (x < y → most ≡ y) → (y ≤ x → most ≡ x) → P x → P y → P most
greater P x y most above below px py =
    elim (cases_lt x y) [
      | inl lt ↦ subst P (sym (above lt)) py
      | inr le ↦ subst P (sym (below le)) px
    ]

pub loop-i-preserved : goal.loop-i-preserved
loop-i-preserved c = λ graph are below k d lt walk walks.
    let bounds = c.args.self.now in
    let cells = bounds.cells.now in
    let v = c.args.v in
    let i = c.loop-i.i in
    let first = c.saturating_mul-first.result in
    let count = c.saturating_add-end.result - first in
    let within : v * length bounds.low.now + i < length cells =
    omega (arith, c.if-end-self.false, c.saturating_mul-first.ensures, c.saturating_add-end.ensures, c.loop-i-test.true) in
    let begins : first ≡ v * length bounds.low.now =
    omega (arith, c.if-end-self.false, c.saturating_mul-first.ensures, c.saturating_add-end.ensures) in
    let few : i < count =
    omega (arith, c.if-end-self.false, begins, c.saturating_add-end.ensures, c.loop-i-test.true) in
    let there = get_or-take count (drop first cells) i 0 few ∙ get_or-drop first cells i 0
    ∙ ap (λ j. get_or cells (j + i) 0) begins in
    let ahead : c.saturating_sub-forward.result ≡ slice_index bounds.low.now i - cell_of bounds v i =
    c.saturating_sub-forward.ensures ∙ ap (λ x. slice_index bounds.low.now i - x) there in
    let behind : c.saturating_sub-backward.result ≡ cell_of bounds v i - slice_index bounds.high.now i =
    c.saturating_sub-backward.ensures ∙ ap (λ x. x - slice_index bounds.high.now i) there in
    let tells = are v i below c.loop-i-test.true within in
    let holds : ℕ → Type 0 = λ units. bound_of bounds.unit units ≤ cost walk in
    let one = greater holds c.loop-i.units c.saturating_sub-forward.result c.max.result
    (λ less. omega (arith, less, c.max.ensures)) (λ more. omega (arith, more, c.max.ensures))
    (c.loop-i.invariant graph are below k d lt walk walks) (subst holds (sym ahead) (tells.0 k d lt walk walks)) in
    greater holds c.max.result c.saturating_sub-backward.result c.max-units.result
    (λ less. omega (arith, less, c.max-units.ensures)) (λ more. omega (arith, more, c.max-units.ensures))
    one (subst holds (sym behind) (tells.1 k d lt walk walks))
