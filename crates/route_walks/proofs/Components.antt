-- A path is a free walk along the arcs both ways; so what is attained at a vertex are the numbers connected with it.
use Rattle.std.proofs.Common.{◌≡◌, ℕ, ◌<◌, ◌≤◌, List, [], ◌∷◌, zero, suc, refl, sym, subst, arith, ◌⊎◌, inl, inr}
use Rattle.std.specs.List.{All, Contains, range_with_len}
use Rattle.std.proofs.lemmas.List.Elements.{All-contains, All-map, All-nil, All-cons, Contains-append_cases}
use Rattle.std.proofs.lemmas.List.Elements.{Contains-append_left, Contains-append_right}
use Rattle.std.proofs.lemmas.List.FromFn.{get_or-map-range_with_len, length-map-range_with_len}
use Rattle.route_walks.specs.declared.graph.ArcRec.{ArcRec}
use Rattle.route_walks.specs.declared.graph.Seed.{Seed}
use Rattle.route_walks.specs.Walk.{IsArcBelow, IsGraph, IsWalk, IsAttained}
use Rattle.route_walks.specs.Operators.{seed_at, seeds_all, along, against, both_ways}
use Rattle.route_walks.specs.Component.{IsPath, AreConnected, LeastLabelsAreComponents}
use Rattle.route_walks.proofs.Cuts.{cost-le}
use Rattle.route_walks.proofs.Attained.{contains-one}

-- the two ways of an arc
abbrev two_ways : ArcRec → List ArcRec
two_ways arc = along arc ∷ against arc ∷ []

either-way : (arc taken : ArcRec) → Contains (two_ways arc) taken → (along arc ≡ taken) ⊎ (against arc ≡ taken)
either-way arc taken (zero, below, is) = inl is
either-way arc taken (suc zero, below, is) = inr is
either-way arc taken (suc (suc k), below, is) = absurd (omega arith)

-- an arc of the graph may be taken either way
both_ways-of : (arcs : List ArcRec) (arc taken : ArcRec) → Contains arcs arc → Contains (two_ways arc) taken
    → Contains (both_ways arcs) taken
both_ways-of [] arc taken within way = absurd (omega (arith, within.1))
both_ways-of (first ∷ arcs) arc taken within way =
    elim (Contains-append_cases (first ∷ []) arcs arc within) [
      | inl here ↦
          Contains-append_left (two_ways first) (both_ways arcs) taken
          (subst (λ (a : ArcRec). Contains (two_ways a) taken) (sym (contains-one first arc here)) way)
      | inr later ↦
          Contains-append_right (two_ways first) (both_ways arcs) taken (both_ways-of arcs arc taken later way)
    ]

-- and no other arc is taken
of_both_ways : (arcs : List ArcRec) (taken : ArcRec) → Contains (both_ways arcs) taken
    → (arc : ArcRec) × Contains arcs arc × Contains (two_ways arc) taken
of_both_ways [] taken within = absurd (omega (arith, within.1))
of_both_ways (first ∷ arcs) taken within =
    elim (Contains-append_cases (two_ways first) (both_ways arcs) taken within) [
      | inl here ↦ (first, (0, omega arith, refl), here)
      | inr later ↦
          let found = of_both_ways arcs taken later in
          (found.0, Contains-append_right (first ∷ []) arcs found.0 found.1, found.2)
    ]

walk-from_path : (arcs : List ArcRec) (u v : ℕ) (path : List ArcRec) → IsPath arcs u path v
    → (walk : List ArcRec) × IsWalk (both_ways arcs) u walk v
walk-from_path arcs u v [] joins = ([], joins)
walk-from_path arcs u v (arc ∷ path) joins =
    elim (joins.1) [
      | inl forward ↦
          let rest = walk-from_path arcs arc.head v path forward.1 in
          (along arc ∷ rest.0, (both_ways-of arcs arc (along arc) joins.0 (0, omega arith, refl), forward.0, rest.1))
      | inr backward ↦
          let rest = walk-from_path arcs arc.tail v path backward.1 in (
            against arc ∷ rest.0,
            (both_ways-of arcs arc (against arc) joins.0 (1, omega arith, refl), backward.0, rest.1),
          )
    ]

-- what is connected with the head of an arc taken either way is with its tail
connected-step : (arcs : List ArcRec) (taken : ArcRec) (v : ℕ) → Contains (both_ways arcs) taken
    → AreConnected arcs taken.head v
    → AreConnected arcs taken.tail v
connected-step arcs taken v within rest =
    let source = of_both_ways arcs taken within in
    let Step : ArcRec → Type 0 = λ a. AreConnected arcs a.head v → AreConnected arcs a.tail v in
    elim (either-way source.0 taken source.2) [
      | inl forward ↦ subst Step forward (λ r. (source.0 ∷ r.0, (source.1, inl (refl, r.1)))) rest
      | inr backward ↦ subst Step backward (λ r. (source.0 ∷ r.0, (source.1, inr (refl, r.1)))) rest
    ]

connected-from_walk : (arcs : List ArcRec) (u v : ℕ) (walk : List ArcRec) → IsWalk (both_ways arcs) u walk v
    → AreConnected arcs u v
connected-from_walk arcs u v [] walks = ([], walks)
connected-from_walk arcs u v (taken ∷ walk) walks =
    subst (λ (x : ℕ). AreConnected arcs x v) walks.1
    (connected-step arcs taken v walks.0 (connected-from_walk arcs taken.head v walk walks.2))

free : (arcs : List ArcRec) → All (λ (arc : ArcRec). arc.weight ≤ 0) (both_ways arcs)
free [] = All-nil (λ (arc : ArcRec). arc.weight ≤ 0)
free (arc ∷ arcs) =
    All-cons (λ (a : ArcRec). a.weight ≤ 0) (along arc) (against arc ∷ both_ways arcs) (omega arith)
    (All-cons (λ (a : ArcRec). a.weight ≤ 0) (against arc) (both_ways arcs) (omega arith) (free arcs))

start-below : (n : ℕ) (arcs : List ArcRec) → IsGraph n arcs → (u v : ℕ) (path : List ArcRec) → IsPath arcs u path v
    → v < n
    → u < n
start-below n arcs graph u v [] joins below = subst (λ (x : ℕ). x < n) (sym joins) below
start-below n arcs graph u v (arc ∷ path) joins below =
    let ends = All-contains (IsArcBelow n) arcs arc graph joins.0 in
    elim (joins.1) [
      | inl forward ↦ subst (λ (x : ℕ). x < n) forward.0 ends.0
      | inr backward ↦ subst (λ (x : ℕ). x < n) backward.0 ends.1
    ]

-- each vertex is a seed
pub seed-within : (n v : ℕ) → v < n → Contains (seeds_all n) (seed_at v)
seed-within n v below = (
  v,
  omega (arith, length-map-range_with_len seed_at 0 n),
  get_or-map-range_with_len seed_at 0 n v v (seed_at v) below (omega arith),
)

seed-starts : (n : ℕ) (seed : Seed) → Contains (seeds_all n) seed → seed.start ≡ seed.vertex
seed-starts n seed within =
    All-contains (λ (s : Seed). s.start ≡ s.vertex) (seeds_all n) seed
    (All-map (λ (s : Seed). s.start ≡ s.vertex) seed_at (range_with_len 0 n) (λ k d below. refl)) within

attained-from_connected : (n : ℕ) (arcs : List ArcRec) → IsGraph n arcs → (u v : ℕ) → v < n → AreConnected arcs u v
    → IsAttained (both_ways arcs) (seeds_all n) v u
attained-from_connected n arcs graph u v below connected =
    let found = walk-from_path arcs u v connected.0 connected.1 in
    record {
      seed = seed_at u;
      walk = found.0;
      seeded = seed-within n u (start-below n arcs graph u v connected.0 connected.1 below);
      walks = found.1;
      costs = omega (arith, cost-le 0 (both_ways arcs) u v found.0 (free arcs) found.1);
    }

connected-from_attained : (n : ℕ) (arcs : List ArcRec) (v c : ℕ) → IsAttained (both_ways arcs) (seeds_all n) v c
    → AreConnected arcs c v
connected-from_attained n arcs v c attained =
    let u = attained.seed.vertex in
    let cheap = cost-le 0 (both_ways arcs) u v attained.walk (free arcs) attained.walks in
    let same : u ≡ c = omega (arith, seed-starts n attained.seed attained.seeded, cheap, attained.costs) in
    subst (λ (x : ℕ). AreConnected arcs x v) same (connected-from_walk arcs u v attained.walk attained.walks)

pub least_labels_are_components : LeastLabelsAreComponents
least_labels_are_components n arcs label graph few least v below =
    let low = (least v below).least v (attained-from_connected n arcs graph v v below ([], refl)) in
    record {
      connected = connected-from_attained n arcs v (label v) ((least v below).attained (omega (arith, low)));
      least = λ u connected. (least v below).least u (attained-from_connected n arcs graph u v below connected);
    }
