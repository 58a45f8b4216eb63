-- Labels along which all arcs are relaxed rise along a walk by no more than its cost. So where they rise by more than any
-- walk may cost, none leads there.
use Rattle.std.proofs.Common.{ℕ, ◌+◌, ◌^◌, ◌<◌, ◌≤◌, List, [], ◌∷◌, subst, arith, inl, inr}
use Rattle.std.specs.List.{All}
use Rattle.std.proofs.lemmas.List.Elements.{All-contains, All-weaker}
use Rattle.std.proofs.lemmas.Bool.{cases_lt, lt-ltb, le-ltb}
use Rattle.route_walks.specs.declared.graph.ArcRec.{ArcRec}
use Rattle.route_walks.specs.declared.graph.TheConstants.{INF, MAX_VERTICES}
use Rattle.route_walks.specs.Walk.{IsWalk, IsGraph, cost}
use Rattle.route_walks.specs.Label.{IsRelaxed}
use Rattle.route_walks.specs.Bounds.{IsBound, IsRelaxedBackward, gap, RelaxedLabelsAreBounds, BackwardLabelsAreBounds}
use Rattle.route_walks.specs.Bounds.{BoundsArePast}
use Rattle.route_walks.proofs.Cuts.{walks_can_be_cut, cost-le}

rise-along : (arcs : List ArcRec) (label : ℕ → ℕ) → All (IsRelaxed label) arcs
    → (u v : ℕ) (walk : List ArcRec) → IsWalk arcs u walk v
    → label v ≤ label u + cost walk
rise-along arcs label relaxed u v [] walks = subst (λ (x : ℕ). label x ≤ label u + 0) walks (omega arith)
rise-along arcs label relaxed u v (arc ∷ walk) walks =
    let here = All-contains (IsRelaxed label) arcs arc relaxed walks.0 in
    let from : label arc.tail ≤ label u = subst (λ (x : ℕ). label arc.tail ≤ label x) walks.1 (omega arith) in
    omega (arith, rise-along arcs label relaxed arc.head v walk walks.2, here, from)

fall-along : (arcs : List ArcRec) (label : ℕ → ℕ) → All (IsRelaxedBackward label) arcs
    → (u v : ℕ) (walk : List ArcRec) → IsWalk arcs u walk v
    → label u ≤ label v + cost walk
fall-along arcs label relaxed u v [] walks = subst (λ (x : ℕ). label u ≤ label x + 0) walks (omega arith)
fall-along arcs label relaxed u v (arc ∷ walk) walks =
    let here = All-contains (IsRelaxedBackward label) arcs arc relaxed walks.0 in
    let from : label u ≤ label arc.tail = subst (λ (x : ℕ). label x ≤ label arc.tail) walks.1 (omega arith) in
    omega (arith, fall-along arcs label relaxed arc.head v walk walks.2, here, from)

-- where each walk makes the difference of two numbers, it makes their gap
gap-bound : (n : ℕ) (arcs : List ArcRec) (v t far near : ℕ) → n ≤ MAX_VERTICES → IsGraph n arcs
    → All (λ arc. arc.weight < 2 ^ 32) arcs → v < n
    → ((walk : List ArcRec) → IsWalk arcs v walk t → far ≤ near + cost walk)
    → IsBound arcs v t (gap far near)
gap-bound n arcs v t far near few graph light below rises walk walks =
    elim (cases_lt far INF) [
      | inl found ↦ rw (lt-ltb far INF found) (omega (arith, rises walk walks))
      | inr none ↦
          elim (cases_lt (2 ^ 60) near) [
            | inl high ↦ rw (le-ltb far INF none, lt-ltb (2 ^ 60) near high) (omega (arith, rises walk walks))
            | inr low ↦
                let cut = walks_can_be_cut n arcs v t walk graph below walks in
                let weights = All-weaker (λ (a : ArcRec). a.weight < 2 ^ 32) (λ (a : ArcRec). a.weight ≤ 2 ^ 32)
                (λ a less. omega arith) arcs light in
                let cheap = cost-le (2 ^ 32) arcs v t cut.walk weights cut.walks in
                absurd (omega (arith, rises cut.walk cut.walks, cheap, cut.short, few, none, low))
          ]
    ]

pub relaxed_labels_are_bounds : RelaxedLabelsAreBounds
relaxed_labels_are_bounds n arcs label few graph light relaxed v t far below low =
    gap-bound n arcs v t far (label v) few graph light below
    (λ walk walks. omega (arith, rise-along arcs label relaxed v t walk walks, low))

pub backward_labels_are_bounds : BackwardLabelsAreBounds
backward_labels_are_bounds n arcs label few graph light relaxed v t near below low =
    gap-bound n arcs v t (label v) near few graph light below
    (λ walk walks. omega (arith, fall-along arcs label relaxed v t walk walks, low))

pub bounds_are_past : BoundsArePast
bounds_are_past limit arcs t v d b bound makes walk walks = omega (arith, bound walk walks, makes)
