-- The vertices that are noted, gone through in rising order.
use Rattle.std.proofs.Common.{◌≡◌, ap, refl, ℕ, ◌+◌, ◌<◌, ◌≤◌, List, [], ◌∷◌, ◌++◌, length, ◌⊎◌, inl, inr}
use Rattle.std.proofs.Common.{subst, sym, arith, below_more, Bool}
use Rattle.std.specs.Prelude.{All, Contains, slice_index, slice_index_or}
use Rattle.std.specs.List.Sorted.{IsNonDecreasing}
use Rattle.std.proofs.lemmas.List.{get_or_append_left, get_or_push, get_or_read, length_push}
use Rattle.std.proofs.lemmas.List.Elements.{All-push, All-weaker, Contains-push, Contains-append_left}
use Rattle.std.proofs.lemmas.Bool.{cases_lt}
use Rattle.route_walks.specs.declared.graph.ArcRec.{ArcRec}
use Rattle.route_walks.specs.declared.graph.Seed.{Seed}
use Rattle.route_walks.specs.declared.graph.TheConstants.{INF}
use Rattle.route_walks.specs.Label.{IsLeast}
use Rattle.near_labels.specs.Noted.{AreExactWithin, AreListed, AreNoted, AreThoseWithin, DoRise}
use Rattle.near_labels.proofs.Noting.{noted-here}

-- the first noted vertices are listed, below the next one
pub record IsListing (labels noted : List ℕ) (bound count : ℕ) (found : List (ℕ × ℕ)) (next : ℕ) : Type 0 where
  pub list : AreListed labels noted bound count found
  pub below : All (λ entry. entry.0 < next) found
  pub from : (next ≡ 0)
      ⊎ ((j : ℕ) × (j < count) × (slice_index noted j + 1 ≡ next) × (slice_index labels (slice_index noted j) ≤ bound))

-- one more rises
rise-push : (found : List (ℕ × ℕ)) (v d next : ℕ) → DoRise found → All (λ entry. entry.0 < next) found → next ≤ v
    → DoRise (found ++ (v, d) ∷ [])
rise-push found v d next rise below low k lt =
    let more : length (found ++ (v, d) ∷ []) ≡ length found + 1 = length_push found (v, d) in
    let here : k < length found = omega arith in
    let old : slice_index_or (found ++ (v, d) ∷ []) k (0, 0) ≡ slice_index_or found k (0, 0) =
    get_or_append_left found ((v, d) ∷ []) (0, 0) k here in
    elim (cases_lt (k + 1) (length found)) [
      | inl inside ↦
          let old' : slice_index_or (found ++ (v, d) ∷ []) (k + 1) (0, 0) ≡ slice_index_or found (k + 1) (0, 0) =
          get_or_append_left found ((v, d) ∷ []) (0, 0) (k + 1) inside in
          omega (arith, ap (λ (e : ℕ × ℕ). e.0) old, ap (λ (e : ℕ × ℕ). e.0) old', rise k inside)
      | inr past ↦
          let last : slice_index_or (found ++ (v, d) ∷ []) (k + 1) (0, 0) ≡ (v, d) =
          get_or_push found (v, d) (0, 0) (k + 1) (omega arith) in
          omega (arith, ap (λ (e : ℕ × ℕ). e.0) old, ap (λ (e : ℕ × ℕ). e.0) last, below k (0, 0) here, low)
    ]

-- the next one is listed
pub listing-put : (labels noted : List ℕ) (bound i : ℕ) (found : List (ℕ × ℕ)) (next : ℕ)
    → IsListing labels noted bound i found next
    → next ≤ slice_index noted i → slice_index noted i < length labels
    → slice_index labels (slice_index noted i) ≤ bound
    → IsListing labels noted bound (i + 1)
    (found ++ (slice_index noted i, slice_index labels (slice_index noted i)) ∷ []) (slice_index noted i + 1)
listing-put labels noted bound i found next before low inside near =
    let v = slice_index noted i in
    let d = slice_index labels v in
    record {
      list = record {
        each =
            All-push
            (λ (entry : ℕ × ℕ). (entry.0 < length labels) × (entry.1 ≤ bound) × (slice_index labels entry.0 ≡ entry.1))
            found (v, d) before.list.each (inside, near, refl);
        all =
            below_more _ _ (λ k lt small. Contains-append_left found ((v, d) ∷ []) _ (before.list.all k lt small))
            (λ _. Contains-push found (v, d));
        rise = rise-push found v d next before.list.rise before.below low;
      };
      below =
          All-push (λ (entry : ℕ × ℕ). entry.0 < v + 1) found (v, d)
          (λ k e lt. omega (arith, before.below k e lt, low)) (omega arith);
      from = inr (i, omega arith, refl, near);
    }

-- the next one isn't within the bound, or stands there already
pub listing-skip : (labels noted : List ℕ) (bound i : ℕ) (found : List (ℕ × ℕ)) (next : ℕ)
    → IsListing labels noted bound i found next → IsNonDecreasing noted → i < length noted
    → (slice_index noted i < next) ⊎ (bound < slice_index labels (slice_index noted i))
    → IsListing labels noted bound (i + 1) found next
listing-skip labels noted bound i found next before rising here why = record {
  list = record {
    each = before.list.each;
    all =
        below_more _ _ before.list.all
        (λ small.
        elim why [
          | inr past ↦ absurd (omega (arith, past, small))
          | inl stands ↦
              elim before.from [
                | inl none ↦ absurd (omega (arith, stands, none))
                | inr (j, lt, is, near) ↦
                    let up : slice_index noted j ≤ slice_index noted i = rising j i 0 (omega (arith, lt)) here in
                    let same : slice_index noted j ≡ slice_index noted i = omega (arith, up, stands, is) in
                    subst (λ (v : ℕ). Contains found (v, slice_index labels v)) same (before.list.all j lt near)
              ]
        ]);
    rise = before.list.rise;
  };
  below = before.below;
  from =
      elim before.from [
        | inl none ↦ inl none
        | inr (j, lt, is, near) ↦ inr (j, omega (arith, lt), is, near)
      ];
}

-- where labels are exact within a bound, those that are listed are the ones within it
pub those-within : (bound n : ℕ) (arcs : List ArcRec) (seeds : List Seed) (labels : List ℕ) (marks : List Bool)
    (noted : List ℕ) (found : List (ℕ × ℕ))
    → bound < INF → length labels ≡ n → AreNoted labels marks noted → AreExactWithin bound n arcs seeds labels
    → AreListed labels noted bound (length noted) found
    → AreThoseWithin bound n arcs seeds found
those-within bound n arcs seeds labels marks noted found low count are exact list = record {
  each =
      All-weaker
      (λ (entry : ℕ × ℕ). (entry.0 < length labels) × (entry.1 ≤ bound) × (slice_index labels entry.0 ≡ entry.1))
      (λ (entry : ℕ × ℕ). (entry.0 < n) × (entry.1 ≤ bound) × IsLeast arcs seeds entry.0 entry.1)
      (λ entry is.
      let below : entry.0 < n = omega (arith, is.0, count) in (
        below,
        is.1,
        subst (IsLeast arcs seeds entry.0) is.2
            ((exact entry.0 below).least (omega (arith, is.1, is.2))),
      )) found list.each;
  all = λ v d below least near.
      let same : slice_index labels v ≡ d = (exact v below).found d least near in
      let stands =
      noted-here labels marks noted v are (omega (arith, below, count)) (λ blank. omega (arith, blank, same, near, low)) in
      let place : v ≡ slice_index noted stands.0 = get_or_read noted stands.0 v stands.1 (sym stands.2) 0 in
      let there : Contains found (v, slice_index labels v) =
      subst (λ (w : ℕ). Contains found (w, slice_index labels w)) (sym place)
      (list.all stands.0 stands.1 (omega (arith, ap (slice_index labels) place, same, near))) in
      subst (λ (e : ℕ). Contains found (v, e)) same there;
  rise = list.rise;
}
