-- How the costs of pairs are filled in.
use Rattle.std.proofs.Common.{◌≡◌, ◌∙◌, ℕ, ◌+◌, ◌<◌, ◌≤◌, List, [], ◌∷◌, ◌++◌, Option, None, Some, ap, arith, get_or, inl, inr}
use Rattle.std.proofs.Common.{length, refl, set, subst, sym, take}
use Rattle.std.specs.List.{All, Contains}
use Rattle.std.specs.List.Sorted.{IsPermutation}
use Rattle.std.proofs.lemmas.List.{get_or-set_same, get_or-set_other}
use Rattle.std.proofs.lemmas.List.{length-set, length_push, take_all, take_more}
use Rattle.std.proofs.lemmas.List.Elements.{All-append, All-cons, All-contains, All-get_or, All-nil, All-weaker}
use Rattle.std.proofs.lemmas.List.Elements.{Contains-append_left, Contains-push}
use Rattle.std.proofs.lemmas.List.Sorted.{All-permutation, Contains-permutation, length_permutation}
use Rattle.std.proofs.lemmas.Bool.{cases_eq}
use Rattle.least_costs.specs.Network.{NetworkSeen}
use denote.Ref.{Bor}
use Rattle.least_costs.specs.Pairs.{pair_at, AreBySource, AreCostsAfter, AreFilled, AreFilledAfter}
use Rattle.least_costs.specs.Pairs.{ArePairCosts, IsPairCost}

-- the first pairs are in the order, with their sources
pub record ArePlaced (pairs : List (ℕ × ℕ)) (count : ℕ) (order : List (ℕ × ℕ)) : Type 0 where
  pub each : All (λ entry. (entry.1 < count) × (entry.0 ≡ (pair_at pairs entry.1).0)) order
  pub all : (k : ℕ) → k < count → Contains order ((pair_at pairs k).0, k)
  pub once : length order ≡ count

pub placed_more : (pairs : List (ℕ × ℕ)) (i : ℕ) (order : List (ℕ × ℕ))
    → ArePlaced pairs i order
    → ArePlaced pairs (i + 1) (order ++ ((pair_at pairs i).0, i) ∷ [])
placed_more pairs i order placed =
    let within : ℕ × ℕ → Type 0 = λ entry. (entry.1 < i + 1) × (entry.0 ≡ (pair_at pairs entry.1).0) in record {
      each =
          All-append within order (((pair_at pairs i).0, i) ∷ [])
          (All-weaker (λ entry. (entry.1 < i) × (entry.0 ≡ (pair_at pairs entry.1).0)) within
          (λ entry is. (omega (arith, is.0), is.1)) order placed.each)
          (All-cons within ((pair_at pairs i).0, i) [] (omega arith, refl) (All-nil within));
      all = λ k below.
          elim (cases_eq k i) [
            | inl is ↦
                subst (λ (j : ℕ). Contains (order ++ ((pair_at pairs i).0, i) ∷ []) ((pair_at pairs j).0, j)) (sym is)
                (Contains-push order ((pair_at pairs i).0, i))
            | inr other ↦
                Contains-append_left order (((pair_at pairs i).0, i) ∷ []) ((pair_at pairs k).0, k)
                (placed.all k (omega (arith, other)))
          ];
      once = length_push order ((pair_at pairs i).0, i) ∙ ap (λ k. k + 1) placed.once;
    }

-- they are in it however it is sorted
pub all_placed : (pairs : List (ℕ × ℕ)) (i : ℕ) (order sorted : List (ℕ × ℕ))
    → i ≡ length pairs → ArePlaced pairs i order → IsPermutation order sorted
    → ((k : ℕ) → k + 1 < length sorted → (pair_at sorted k).0 ≤ (pair_at sorted (k + 1)).0)
    → AreBySource pairs sorted
all_placed pairs i order sorted all placed moved rise = record {
  rise = rise;
  once = length_permutation order sorted moved ∙ placed.once ∙ all;
  each =
      subst (λ (k : ℕ). All (λ (entry : ℕ × ℕ). (entry.1 < k) × (entry.0 ≡ (pair_at pairs entry.1).0)) sorted) all
      (All-permutation (λ entry. (entry.1 < i) × (entry.0 ≡ (pair_at pairs entry.1).0)) order sorted moved placed.each);
  all = λ k below.
      Contains-permutation order sorted ((pair_at pairs k).0, k) moved (placed.all k (omega (arith, all)));
}

-- the pair of an entry, and its source
pub entry_of : (pairs order : List (ℕ × ℕ)) (i : ℕ) → i < length order → AreBySource pairs order
    → ((pair_at order i).1 < length pairs) × ((pair_at order i).0 ≡ (pair_at pairs (pair_at order i).1).0)
entry_of pairs order i here by =
    All-get_or (λ e. (e.1 < length pairs) × (e.0 ≡ (pair_at pairs e.1).0)) order i (0, 0) here by.each

-- one cost more is filled in
pub filled_more : (net : NetworkSeen) (pairs order : List (ℕ × ℕ)) (i : ℕ) (filled : List (Option ℕ)) (cost : Option ℕ)
    → i < length order → (pair_at order i).1 < length filled
    → IsPairCost net (pair_at pairs (pair_at order i).1) cost
    → AreFilled net pairs order i filled
    → AreFilled net pairs order (i + 1) (set filled (pair_at order i).1 cost)
filled_more net pairs order i filled cost here place is before =
    let entry = pair_at order i in
    let new = set filled entry.1 cost in
    let now : IsPairCost net (pair_at pairs entry.1) (get_or new entry.1 None) =
    subst (IsPairCost net (pair_at pairs entry.1)) (sym (get_or-set_same filled entry.1 cost None place)) is in
    let stays : (e : ℕ × ℕ)
    → IsPairCost net (pair_at pairs e.1) (get_or filled e.1 None)
    → IsPairCost net (pair_at pairs e.1) (get_or new e.1 None) =
    λ e old.
    elim (cases_eq e.1 entry.1) [
      | inl same ↦ subst (λ (k : ℕ). IsPairCost net (pair_at pairs k) (get_or new k None)) (sym same) now
      | inr other ↦
          subst (IsPairCost net (pair_at pairs e.1)) (sym (get_or-set_other filled entry.1 e.1 cost None other)) old
    ] in
    let is_filled : ℕ × ℕ → Type 0 = λ e. IsPairCost net (pair_at pairs e.1) (get_or new e.1 None) in record {
      places = length-set filled entry.1 cost ∙ before.places;
      filled =
          subst (All is_filled) (sym (take_more order i (0, 0) here))
          (All-append is_filled (take i order) (entry ∷ [])
          (All-weaker (λ e. IsPairCost net (pair_at pairs e.1) (get_or filled e.1 None)) is_filled stays (take i order)
          before.filled)
          (All-cons is_filled entry [] now (All-nil is_filled)));
    }

-- once all are filled in, each pair has its cost
pub all_filled : (net : NetworkSeen) (pairs order : List (ℕ × ℕ)) (i : ℕ) (costs : List (Option ℕ))
    → length order ≤ i → AreBySource pairs order → AreFilled net pairs order i costs
    → ArePairCosts net pairs costs
all_filled net pairs order i costs past by filled = record {
  places = filled.places;
  each = λ k below.
      All-contains (λ e. IsPairCost net (pair_at pairs e.1) (get_or costs e.1 None)) order ((pair_at pairs k).0, k)
      (subst (All (λ (e : ℕ × ℕ). IsPairCost net (pair_at pairs e.1) (get_or costs e.1 None))) (take_all i order past)
      filled.filled) (by.all k below);
}

-- the same in the grown network, if there is one
pub all_filled_after : (grown : Option (Bor NetworkSeen)) (pairs order : List (ℕ × ℕ)) (i : ℕ) (costs : List (Option ℕ))
    → length order ≤ i → AreBySource pairs order → AreFilledAfter grown pairs order i costs
    → AreCostsAfter grown pairs costs
all_filled_after None pairs order i costs past by filled = tt
all_filled_after (Some grown) pairs order i costs past by filled =
    all_filled grown.now pairs order i costs past by filled
