-- What labels come to with one label more before them.
use Rattle.std.proofs.Common.{◌≡◌, ◌≢◌, ℕ, ◌+◌, ◌<◌, ◌≤◌, ◌==◌, max, true, false, List, ◌∷◌, ◌⊎◌, inl, inr}
use Rattle.std.proofs.Common.{refl, ap, ◌∙◌, arith, if◌then◌else◌}
use Rattle.std.specs.List.{position_or_len}
use Rattle.std.proofs.lemmas.Bool.{cases_Bool, cases_eq}
use Rattle.std.proofs.lemmas.Bool.Decides.{nat_tests}
use Rattle.route_walks.specs.declared.graph.TheConstants.{INF}
use Rattle.answer_lines.specs.Totals.{cost_or_0, farthest, greatest}

-- a label is a cost, or that of no walk
cases-label : (label : ℕ) → ((label ≡ INF) × (cost_or_0 label ≡ 0)) ⊎ ((label ≢ INF) × (cost_or_0 label ≡ label))
cases-label label =
    elim (cases_eq label INF) [
      | inl same ↦ let test : (label == INF) ≡ true = grind (arith, nat_tests) in inl (same, rw test refl)
      | inr other ↦ let test : (label == INF) ≡ false = grind (arith, nat_tests) in inr (other, rw test refl)
    ]

pub cost-below : (label : ℕ) → label ≤ INF → cost_or_0 label < INF
cost-below label small =
    elim (cases-label label) [
      | inl none ↦ omega (arith, none.1)
      | inr cost ↦ omega (arith, cost.0, cost.1)
    ]

pub counts-one : (label : ℕ) → (if label == INF then 0 else 1) ≤ 1
counts-one label =
    elim (cases_Bool (label == INF)) [ inl test ↦ rw test (omega arith) | inr test ↦ rw test (omega arith) ]

-- a label that is not the greatest cost leaves the one of the others
greatest-kept : (label most : ℕ) → label ≢ max (cost_or_0 label) most → max (cost_or_0 label) most ≡ most
greatest-kept label most other =
    elim (cases-label label) [
      | inl none ↦ omega (arith, none.1)
      | inr cost ↦ omega (arith, cost.1, other)
    ]

-- the vertex v, whose label comes first, is the farthest if its label is the greatest cost
pub farthest-next : (v label : ℕ) (labels : List ℕ)
    → v + farthest (label ∷ labels)
    ≡ (if label == max (cost_or_0 label) (greatest labels) then v else v + 1 + farthest labels)
farthest-next v label labels =
    let most = max (cost_or_0 label) (greatest labels) in
    elim (cases_Bool (label == most)) [
      | inl test ↦ rw test (omega arith)
      | inr test ↦
          let other : label ≢ most = grind (arith, nat_tests) in
          let same : most ≡ greatest labels = greatest-kept label (greatest labels) other in
          rw test
          (ap (λ (cost : ℕ). v + (1 + position_or_len (λ x. x == cost) labels)) same ∙ omega arith)
    ]
