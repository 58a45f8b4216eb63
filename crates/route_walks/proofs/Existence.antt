-- Least labels exist: as many rounds over all arcs as there are vertices give them.
use Rattle.std.proofs.Common.{◌≡◌, ℕ, zero, suc, ◌+◌, ◌<◌, ◌≤◌, ◌⊎◌, List, [], ◌∷◌, Bool, true, false, min, eqb}
use Rattle.std.proofs.Common.{length, map, refl, sym, subst, arith, inl, inr}
use Rattle.std.specs.List.{Contains, range_with_len}
use Rattle.std.proofs.lemmas.Bool.{cases_lt, eqb-true}
use Rattle.std.proofs.lemmas.Bool.Decides.{nat_tests}
use Rattle.std.proofs.lemmas.List.Elements.{All-contains, Contains-append_right}
use Rattle.std.proofs.lemmas.List.FromFn.{get_or-map-range_with_len, length-map-range_with_len}
use Rattle.route_walks.specs.declared.graph.ArcRec.{ArcRec}
use Rattle.route_walks.specs.declared.graph.Seed.{Seed}
use Rattle.route_walks.specs.declared.graph.TheConstants.{INF}
use Rattle.route_walks.specs.Walk.{IsAttained, IsWalk, cost}
use Rattle.route_walks.specs.Label.{IsLeast}
use Rattle.route_walks.specs.Existence.{LeastLabelsExist}
use Rattle.route_walks.proofs.Attained.{attained-along, attained-start}
use Rattle.route_walks.proofs.Cuts.{walks_can_be_cut}

-- the lesser of two numbers where the first counts too
abbrev pick : Bool → ℕ → ℕ → ℕ
pick true x y = min x y
pick false x y = y

pick-le : (counts : Bool) (x y : ℕ) → pick counts x y ≤ y
pick-le true x y = omega arith
pick-le false x y = omega arith

pick-first : (counts : Bool) (x y : ℕ) → counts ≡ true → pick counts x y ≤ x
pick-first true x y is = omega arith
pick-first false x y is = cc

pick-is : (counts : Bool) (x y : ℕ) → (pick counts x y ≡ y) ⊎ ((counts ≡ true) × (pick counts x y ≡ x))
pick-is false x y = inl refl
pick-is true x y =
    elim (cases_lt x y) [
      | inl less ↦ inr (refl, omega (arith, less))
      | inr more ↦ inl (omega (arith, more))
    ]

eqb-same : (v : ℕ) → eqb v v ≡ true
eqb-same v = grind (arith, nat_tests)

-- the label of v after each of these arcs has offered one
abbrev offered : (ℕ → ℕ) → List ArcRec → ℕ → ℕ
offered label [] v = label v
offered label (arc ∷ arcs) v = pick (eqb arc.head v) (label arc.tail + arc.weight) (offered label arcs v)

offered-le : (label : ℕ → ℕ) (arcs : List ArcRec) (v : ℕ) → offered label arcs v ≤ label v
offered-le label [] v = omega arith
offered-le label (arc ∷ arcs) v =
    let rest = offered label arcs v in
    omega (arith, pick-le (eqb arc.head v) (label arc.tail + arc.weight) rest, offered-le label arcs v)

offered-arc : (label : ℕ → ℕ) (arcs : List ArcRec) (arc : ArcRec) → Contains arcs arc
    → offered label arcs arc.head ≤ label arc.tail + arc.weight
offered-arc label [] arc (k, below, is) = absurd (omega arith)
offered-arc label (first ∷ arcs) arc (zero, below, is) =
    subst (λ (a : ArcRec). offered label (first ∷ arcs) a.head ≤ label a.tail + a.weight) is
    (pick-first (eqb first.head first.head) (label first.tail + first.weight) (offered label arcs first.head)
    (eqb-same first.head))
offered-arc label (first ∷ arcs) arc (suc k, below, is) =
    let rest = offered label arcs arc.head in
    omega (
      arith,
      pick-le (eqb first.head arc.head) (label first.tail + first.weight) rest,
      offered-arc label arcs arc (k, omega arith, is),
    )

-- the same after k rounds over all arcs
abbrev rounds : List ArcRec → ℕ → (ℕ → ℕ) → ℕ → ℕ
rounds arcs zero label = label
rounds arcs (suc k) label = rounds arcs k (offered label arcs)

rounds-le : (arcs : List ArcRec) (k : ℕ) (label : ℕ → ℕ) (v : ℕ) → rounds arcs k label v ≤ label v
rounds-le arcs zero label v = omega arith
rounds-le arcs (suc k) label v = omega (arith, rounds-le arcs k (offered label arcs) v, offered-le label arcs v)

-- a walk of at most k arcs is followed in k rounds
rounds-walk : (arcs : List ArcRec) (k : ℕ) (label : ℕ → ℕ) (u v : ℕ) (walk : List ArcRec)
    → length walk ≤ k → IsWalk arcs u walk v
    → rounds arcs k label v ≤ label u + cost walk
rounds-walk arcs k label u v [] short walks =
    subst (λ (x : ℕ). rounds arcs k label x ≤ label u + 0) walks (omega (arith, rounds-le arcs k label u))
rounds-walk arcs zero label u v (arc ∷ walk) short walks = absurd (omega (arith, short))
rounds-walk arcs (suc k) label u v (arc ∷ walk) short walks =
    let rest = rounds-walk arcs k (offered label arcs) arc.head v walk (omega (arith, short)) walks.2 in
    let here = offered-arc label arcs arc walks.0 in
    subst (λ (x : ℕ). rounds arcs (suc k) label v ≤ label x + cost (arc ∷ walk)) walks.1 (omega (arith, rest, here))

module _ (arcs : List ArcRec) (seeds : List Seed) where
  -- each label below INF is attained
  abbrev Sound : (ℕ → ℕ) → Type 0
  Sound label = (v : ℕ) → label v < INF → IsAttained arcs seeds v (label v)

  offered-sound : (label : ℕ → ℕ) → Sound label → (some : List ArcRec)
      → ((arc : ArcRec) → Contains some arc → Contains arcs arc)
      → Sound (offered label some)
  offered-sound label sound [] inside v finite = sound v finite
  offered-sound label sound (arc ∷ some) inside v finite =
      elim (pick-is (eqb arc.head v) (label arc.tail + arc.weight) (offered label some v)) [
        | inl same ↦
            let rest = offered-sound label sound some
            (λ a within. inside a (Contains-append_right (arc ∷ []) some a within)) in
            subst (IsAttained arcs seeds v) (sym same) (rest v (omega (arith, same, finite)))
        | inr here ↦
            let tail = sound arc.tail (omega (arith, here.1, finite)) in
            let head = attained-along arcs seeds arc (label arc.tail) (inside arc (0, omega arith, refl)) tail in
            subst (IsAttained arcs seeds v) (sym here.1)
            (subst (λ (x : ℕ). IsAttained arcs seeds x (label arc.tail + arc.weight)) (eqb-true arc.head v here.0) head)
      ]

  rounds-sound : (k : ℕ) (label : ℕ → ℕ) → Sound label → Sound (rounds arcs k label)
  rounds-sound zero label sound = sound
  rounds-sound (suc k) label sound =
      rounds-sound k (offered label arcs) (offered-sound label sound arcs (λ arc within. within))

  -- the least start of a seed at v
  abbrev start : List Seed → ℕ → ℕ
  start [] v = INF
  start (seed ∷ some) v = pick (eqb seed.vertex v) seed.start (start some v)

  start-capped : (some : List Seed) (v : ℕ) → start some v ≤ INF
  start-capped [] v = omega arith
  start-capped (seed ∷ some) v =
      omega (arith, pick-le (eqb seed.vertex v) seed.start (start some v), start-capped some v)

  start-met : (some : List Seed) (seed : Seed) → Contains some seed → start some seed.vertex ≤ seed.start
  start-met [] seed (k, below, is) = absurd (omega arith)
  start-met (first ∷ some) seed (zero, below, is) =
      subst (λ (s : Seed). start (first ∷ some) s.vertex ≤ s.start) is
      (pick-first (eqb first.vertex first.vertex) first.start (start some first.vertex) (eqb-same first.vertex))
  start-met (first ∷ some) seed (suc k, below, is) =
      omega (
        arith,
        pick-le (eqb first.vertex seed.vertex) first.start (start some seed.vertex),
        start-met some seed (k, omega arith, is),
      )

  start-sound : (some : List Seed) → ((seed : Seed) → Contains some seed → Contains seeds seed) → Sound (start some)
  start-sound [] inside v finite = absurd (omega (arith, finite))
  start-sound (seed ∷ some) inside v finite =
      elim (pick-is (eqb seed.vertex v) seed.start (start some v)) [
        | inl same ↦
            let rest = start-sound some (λ s within. inside s (Contains-append_right (seed ∷ []) some s within)) in
            subst (IsAttained arcs seeds v) (sym same) (rest v (omega (arith, same, finite)))
        | inr here ↦
            let own = attained-start arcs seeds seed (inside seed (0, omega arith, refl)) in
            subst (IsAttained arcs seeds v) (sym here.1)
            (subst (λ (x : ℕ). IsAttained arcs seeds x seed.start) (eqb-true seed.vertex v here.0) own)
      ]

pub least_labels_exist : LeastLabelsExist
least_labels_exist n arcs seeds graph within =
    let from = start arcs seeds seeds in
    let label = rounds arcs n from in
    let here : (v : ℕ) → v < n → IsLeast arcs seeds v (label v) =
    λ v below. record {
      capped = omega (arith, rounds-le arcs n from v, start-capped arcs seeds seeds v);
      attained = rounds-sound arcs seeds n from (start-sound arcs seeds seeds (λ seed inside. inside)) v;
      least = λ c attained.
          let seed = attained.seed in
          let inside = All-contains (λ (s : Seed). s.vertex < n) seeds seed within attained.seeded in
          let cut = walks_can_be_cut n arcs seed.vertex v attained.walk graph inside attained.walks in
          let along = rounds-walk arcs n from seed.vertex v cut.walk (omega (arith, cut.short)) cut.walks in
          let met = start-met arcs seeds seeds seed attained.seeded in
          omega (arith, along, met, cut.cheap, attained.costs);
    } in (
      map label (range_with_len 0 n),
      record {
        count = length-map-range_with_len label 0 n;
        least = λ v below.
            let at = get_or-map-range_with_len label 0 n v v 0 below (omega arith) in
            subst (IsLeast arcs seeds v) (sym at) (here v below);
      },
    )
