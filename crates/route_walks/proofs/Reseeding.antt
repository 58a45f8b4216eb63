-- Labels that are sound and meet the seeds serve as seeds: what is attained from them is attained from the seeds, and
-- what is attained from the seeds, or less, from them.
use Rattle.std.proofs.Common.{◌≡◌, ℕ, zero, suc, ◌+◌, ◌<◌, ◌≤◌, List, [], ◌∷◌, Bool, true, false, cond, nat_lt}
use Rattle.std.proofs.Common.{length, map, get_or, slice_index, refl, subst, arith, inl, inr}
use Rattle.std.specs.List.{All, Contains, filter, range_with_len}
use Rattle.std.proofs.lemmas.List.Elements.{All-contains, All-filter, All-map, All-weaker, filter_passes}
use Rattle.std.proofs.lemmas.List.FromFn.{get_or-range_with_len, length-range_with_len}
use Rattle.std.proofs.lemmas.List.FromFn.{get_or-map-range_with_len, length-map-range_with_len}
use Rattle.std.proofs.lemmas.Bool.{cases_lt, lt-ltb, ltb-true}
use Rattle.route_walks.specs.declared.graph.ArcRec.{ArcRec}
use Rattle.route_walks.specs.declared.graph.Seed.{Seed}
use Rattle.route_walks.specs.declared.graph.TheConstants.{INF}
use Rattle.route_walks.specs.Walk.{IsAttained, cost, AreSeeds}
use Rattle.route_walks.specs.Operators.{seed_of, seeds_of}
use Rattle.route_walks.specs.Label.{IsMet, IsSound, IsLeast, LabelsServeAsSeeds}
use Rattle.route_walks.proofs.Attained.{attained-over}

contains-kept : {X : Type 0} (b : Bool) (y x : X) (ys : List X) → Contains ys x → Contains (cond b (y ∷ ys) ys) x
contains-kept true y x ys (k, below, is) = (suc k, omega arith, is)
contains-kept false y x ys within = within

-- an element that passes the test is among those that are kept
contains-filter : {X : Type 0} (p : X → Bool) (xs : List X) (x : X) → Contains xs x → p x ≡ true
    → Contains (filter p xs) x
contains-filter p [] x (k, below, is) passes = absurd (omega arith)
contains-filter p (y ∷ ys) x (zero, below, is) passes = rw (is, passes) (zero, omega arith, refl)
contains-filter p (y ∷ ys) x (suc k, below, is) passes =
    contains-kept (p y) y x (filter p ys) (contains-filter p ys x (k, omega arith, is) passes)

-- a seed is a vertex that starts at its label
abbrev pub StartsAtLabel : List ℕ → Seed → Type 0
StartsAtLabel labels seed = (seed.vertex < length labels) × (seed.start ≡ slice_index labels seed.vertex)

-- the seeds of labels are such seeds
seeds-start_at_labels : (labels : List ℕ) → All (StartsAtLabel labels) (seeds_of labels)
seeds-start_at_labels labels =
    let n = length labels in
    let seed = seed_of (slice_index labels) in
    let each : (i d : ℕ) → i < length (range_with_len 0 n)
    → StartsAtLabel labels (seed (get_or (range_with_len 0 n) i d)) =
    λ i d lt.
    let here : i < n = omega (arith, length-range_with_len 0 n) in
    (omega (arith, get_or-range_with_len 0 n i d here), refl) in
    All-filter (λ s. nat_lt s.start INF) (StartsAtLabel labels) (map seed (range_with_len 0 n))
    (All-map (StartsAtLabel labels) seed (range_with_len 0 n) each)

-- so they are among the vertices that have labels
pub labels-are_seeds : (labels : List ℕ) → AreSeeds (length labels) (seeds_of labels)
labels-are_seeds labels =
    All-weaker (StartsAtLabel labels) (λ seed. seed.vertex < length labels) (λ seed starts. starts.0)
    (seeds_of labels) (seeds-start_at_labels labels)

-- and start below INF
seeds-start_below_INF : (labels : List ℕ) → All (λ seed. seed.start < INF) (seeds_of labels)
seeds-start_below_INF labels =
    let finite : Seed → Bool = λ seed. nat_lt seed.start INF in
    All-weaker (λ seed. finite seed ≡ true) (λ seed. seed.start < INF) (λ seed passes. ltb-true seed.start INF passes)
    (seeds_of labels) (filter_passes finite (map (seed_of (slice_index labels)) (range_with_len 0 (length labels))))

-- labels meet their own seeds
pub labels-meet_their_seeds : (labels : List ℕ) → All (IsMet (slice_index labels)) (seeds_of labels)
labels-meet_their_seeds labels =
    All-weaker (StartsAtLabel labels) (IsMet (slice_index labels)) (λ seed starts. omega (arith, starts.1))
    (seeds_of labels) (seeds-start_at_labels labels)

-- and each vertex with a label below INF is one
pub labels-have_seed : (labels : List ℕ) (v : ℕ) → v < length labels → slice_index labels v < INF
    → Contains (seeds_of labels) (seed_of (slice_index labels) v)
labels-have_seed labels v below finite =
    let n = length labels in
    let label = slice_index labels in
    let is = get_or-map-range_with_len (seed_of label) 0 n v v (seed_of label v) below (omega arith) in
    contains-filter (λ seed. nat_lt seed.start INF) _ (seed_of label v)
    (v, omega (arith, length-map-range_with_len (seed_of label) 0 n), is) (lt-ltb (label v) INF finite)

module _ (n : ℕ) (arcs : List ArcRec) (seeds : List Seed) (labels : List ℕ) (within : AreSeeds n seeds)
    (count : length labels ≡ n) (sound : IsSound n arcs seeds (slice_index labels))
    (met : All (IsMet (slice_index labels)) seeds) where
  -- what is attained from the labels is attained from the seeds
  pub attained-from_labels : (v c : ℕ) → IsAttained arcs (seeds_of labels) v c → IsAttained arcs seeds v c
  attained-from_labels v c attained =
      let u = attained.seed.vertex in
      let seed = All-contains (StartsAtLabel labels) _ attained.seed (seeds-start_at_labels labels) attained.seeded in
      let finite = All-contains (λ s. s.start < INF) _ attained.seed (seeds-start_below_INF labels) attained.seeded in
      let here = sound u (omega (arith, seed.0, count)) (omega (arith, seed.1, finite)) in
      let sum : slice_index labels u + cost attained.walk ≡ c = omega (arith, seed.1, attained.costs) in
      subst (IsAttained arcs seeds v) sum (attained-over arcs seeds u v _ attained.walk here attained.walks)

  -- and what is attained from the seeds below INF is attained from the labels, or less is
  attained-by_labels : (v c : ℕ) → IsAttained arcs seeds v c → c < INF
      → (b : ℕ) × (b ≤ c) × IsAttained arcs (seeds_of labels) v b
  attained-by_labels v c attained finite =
      let u = attained.seed.vertex in
      let label = slice_index labels in
      let lower = All-contains (IsMet label) seeds attained.seed met attained.seeded in
      let inside = All-contains (λ (s : Seed). s.vertex < n) seeds attained.seed within attained.seeded in
      let seeded =
      labels-have_seed labels u (omega (arith, inside, count)) (omega (arith, lower, attained.costs, finite)) in (
        label u + cost attained.walk,
        omega (arith, lower, attained.costs),
        record {
          seed = seed_of label u;
          walk = attained.walk;
          seeded = seeded;
          walks = attained.walks;
          costs = refl;
        },
      )

  least-from_labels : (v d : ℕ) → IsLeast arcs (seeds_of labels) v d → IsLeast arcs seeds v d
  least-from_labels v d is = record {
    capped = is.capped;
    attained = λ finite. attained-from_labels v d (is.attained finite);
    least = λ c attained.
        elim (cases_lt c INF) [
          | inl finite ↦
              let lower = attained-by_labels v c attained finite in
              omega (arith, lower.1, is.least lower.0 lower.2)
          | inr large ↦ omega (arith, large, is.capped)
        ];
  }

  least-by_labels : (v d : ℕ) → IsLeast arcs seeds v d → IsLeast arcs (seeds_of labels) v d
  least-by_labels v d is = record {
    capped = is.capped;
    attained = λ finite.
        let lower = attained-by_labels v d (is.attained finite) finite in
        let same : lower.0 ≡ d = omega (arith, lower.1, is.least lower.0 (attained-from_labels v lower.0 lower.2)) in
        subst (IsAttained arcs (seeds_of labels) v) same lower.2;
    least = λ c attained. is.least c (attained-from_labels v c attained);
  }

pub labels_serve_as_seeds : LabelsServeAsSeeds
labels_serve_as_seeds n arcs seeds labels least within count sound met = (
  λ is. record {
    count = is.count;
    least = λ v below. least-from_labels n arcs seeds labels within count sound met v _ (is.least v below);
  },
  λ is. record {
    count = is.count;
    least = λ v below. least-by_labels n arcs seeds labels within count sound met v _ (is.least v below);
  },
)
