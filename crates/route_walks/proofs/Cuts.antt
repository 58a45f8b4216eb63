-- A walk can leave out what lies between two visits of a vertex, so some walk of no more cost meets none twice, and at
-- most n vertices. So no least cost is as large as INF.
use Rattle.std.proofs.Common.{◌≡◌, ℕ, ◌+◌, ◌*◌, ◌^◌, ◌<◌, ◌≤◌, List, [], ◌∷◌, length, map, true, false, eqb, refl, sym}
use Rattle.std.proofs.Common.{subst}
use Rattle.std.proofs.Common.{◌⊎◌, inl, inr, arith}
use Rattle.std.specs.List.{All, IsDistinct, AllByRecursion, list_any}
use Rattle.std.proofs.lemmas.List.{length-map}
use Rattle.std.proofs.lemmas.List.Elements.{All-contains, All-weaker, All-nil, All-cons}
use Rattle.std.proofs.lemmas.Bool.{cases_Bool, or_cases, or_parts, eqb-true}
use Rattle.std.proofs.lemmas.Map.Steps.{length-le_from_distinct_below}
use Rattle.std.proofs.lemmas.Map.Views.{Contains-from_any}
use Rattle.route_walks.specs.declared.graph.ArcRec.{ArcRec}
use Rattle.route_walks.specs.declared.graph.Seed.{Seed}
use Rattle.route_walks.specs.declared.graph.TheConstants.{INF, MAX_VERTICES}
use Rattle.route_walks.specs.Walk.{IsWalk, cost, IsGraph, IsArcBelow, IsAttained, AreSeeds, WalksCanBeCut}
use Rattle.route_walks.specs.Label.{InfMeansNoWalk, IsLeast}

-- the vertices that a walk enters, and those that a walk from u meets, u first
abbrev heads : List ArcRec → List ℕ
heads walk = map (λ (arc : ArcRec). arc.head) walk

abbrev vertices : ℕ → List ArcRec → List ℕ
vertices u walk = u ∷ heads walk

vertices-below : (n : ℕ) (arcs : List ArcRec) → IsGraph n arcs → (u v : ℕ) (walk : List ArcRec) → u < n
    → IsWalk arcs u walk v
    → All (λ x. x < n) (vertices u walk)
vertices-below n arcs graph u v [] below walks = All-cons (λ x. x < n) u [] below (All-nil (λ x. x < n))
vertices-below n arcs graph u v (arc ∷ walk) below walks =
    All-cons (λ x. x < n) u (vertices arc.head walk) below
    (vertices-below n arcs graph arc.head v walk (All-contains (IsArcBelow n) arcs arc graph walks.0).1 walks.2)

-- a walk from u to v that meets no vertex twice, and costs at most this
record Simple (arcs : List ArcRec) (u v most : ℕ) : Type 0 where
  walk : List ArcRec
  walks : IsWalk arcs u walk v
  distinct : IsDistinct eqb (vertices u walk)
  cheap : cost walk ≤ most

-- what follows the vertex q on a walk that begins there or enters it
from_there : (arcs : List ArcRec) (q u v : ℕ) (walk : List ArcRec) → IsWalk arcs u walk v
    → IsDistinct eqb (vertices u walk)
    → (eqb q u ≡ true) ⊎ (list_any (eqb q) (heads walk) ≡ true)
    → Simple arcs q v (cost walk)
unfolding IsDistinct
from_there arcs q u v walk walks distinct (inl here) =
    subst (λ (x : ℕ). Simple arcs x v (cost walk)) (sym (eqb-true q u here))
    (record { walk = walk; walks = walks; distinct = distinct; cheap = omega arith })
from_there arcs q u v [] walks distinct (inr never) = cc
from_there arcs q u v (arc ∷ walk) walks distinct (inr later) =
    let meets = or_cases (eqb q arc.head) (list_any (eqb q) (heads walk)) later in
    let rest = from_there arcs q arc.head v walk walks.2 distinct.1 meets in
    record { walk = rest.walk; walks = rest.walks; distinct = rest.distinct; cheap = omega (arith, rest.cheap) }

never_equal : (q : ℕ) (xs : List ℕ) → list_any (eqb q) xs ≡ false → AllByRecursion (λ y. eqb q y ≡ false) xs
never_equal q [] none = tt
never_equal q (x ∷ xs) none =
    let parts = or_parts (eqb q x) (list_any (eqb q) xs) none in (parts.0, never_equal q xs parts.1)

simple : (arcs : List ArcRec) (u v : ℕ) (walk : List ArcRec) → IsWalk arcs u walk v → Simple arcs u v (cost walk)
unfolding IsDistinct
simple arcs u v [] walks = record { walk = []; walks = walks; distinct = (tt, tt); cheap = omega arith }
simple arcs u v (arc ∷ walk) walks =
    let rest = simple arcs arc.head v walk walks.2 in
    elim (cases_Bool (list_any (eqb u) (vertices arc.head rest.walk))) [
      | inl again ↦
          let meets = or_cases (eqb u arc.head) (list_any (eqb u) (heads rest.walk)) again in
          let cut = from_there arcs u arc.head v rest.walk rest.walks rest.distinct meets in
          record {
            walk = cut.walk;
            walks = cut.walks;
            distinct = cut.distinct;
            cheap =
                omega (arith, cut.cheap, rest.cheap);
          }
      | inr fresh ↦
          record {
            walk = arc ∷ rest.walk;
            walks = (walks.0, walks.1, rest.walks);
            distinct = (never_equal u (vertices arc.head rest.walk) fresh, rest.distinct);
            cheap = omega (arith, rest.cheap);
          }
    ]

pub walks_can_be_cut : WalksCanBeCut
walks_can_be_cut n arcs u v walk graph below walks =
    let cut = simple arcs u v walk walks in
    let all = vertices-below n arcs graph u v cut.walk below cut.walks in
    let few =
    length-le_from_distinct_below (vertices u cut.walk) n cut.distinct
    (λ q meets. All-contains (λ x. x < n) (vertices u cut.walk) q all
    (Contains-from_any eqb-true q (vertices u cut.walk) meets)) in
    let count = length-map cut.walk (λ (arc : ArcRec). arc.head) in
    record { walk = cut.walk; walks = cut.walks; short = omega (arith, few, count); cheap = cut.cheap }

-- a walk costs at most its length times the greatest weight
pub cost-le : (most : ℕ) (arcs : List ArcRec) (u v : ℕ) (walk : List ArcRec)
    → All (λ (arc : ArcRec). arc.weight ≤ most) arcs → IsWalk arcs u walk v
    → cost walk ≤ length walk * most
cost-le most arcs u v [] light walks = omega arith
cost-le most arcs u v (arc ∷ walk) light walks =
    let here = All-contains (λ (a : ArcRec). a.weight ≤ most) arcs arc light walks.0 in
    let rest = cost-le most arcs arc.head v walk light walks.2 in
    omega (arith, here, rest)

-- nothing is attained at a vertex whose least label is INF
pub no_walk_at_inf : (n : ℕ) (arcs : List ArcRec) (seeds : List Seed) (v : ℕ)
    → n ≤ MAX_VERTICES
    → IsGraph n arcs
    → All (λ arc. arc.weight < 2 ^ 32) arcs
    → AreSeeds n seeds
    → All (λ seed. seed.start ≤ 2 ^ 60) seeds
    → IsLeast arcs seeds v INF
    → (c : ℕ) → ¬ (IsAttained arcs seeds v c)
no_walk_at_inf n arcs seeds v few graph light within starts least c attained =
    let seed = attained.seed in
    let inside = All-contains (λ (s : Seed). s.vertex < n) seeds seed within attained.seeded in
    let start = All-contains (λ (s : Seed). s.start ≤ 2 ^ 60) seeds seed starts attained.seeded in
    let cut = walks_can_be_cut n arcs seed.vertex v attained.walk graph inside attained.walks in
    let weights = All-weaker (λ (a : ArcRec). a.weight < 2 ^ 32) (λ (a : ArcRec). a.weight ≤ 2 ^ 32)
    (λ a less. omega arith) arcs light in
    let cheap = cost-le (2 ^ 32) arcs seed.vertex v cut.walk weights cut.walks in
    let low = least.least (seed.start + cost cut.walk)
    (record { seed = seed; walk = cut.walk; seeded = attained.seeded; walks = cut.walks; costs = refl }) in
    omega (arith, low, start, cheap, cut.short, few)

pub inf_means_no_walk : InfMeansNoWalk
inf_means_no_walk n arcs seeds labels few graph light within starts least v below inf =
    no_walk_at_inf n arcs seeds v few graph light within starts
    (subst (IsLeast arcs seeds v) inf (least.least v below))
