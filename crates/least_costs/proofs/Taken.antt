-- A loop over many sources, one entry more at each, and lists with an entry for each of another.
use Rattle.std.proofs.Common.{◌≡◌, ◌∙◌, ℕ, ◌<◌, List, [], ◌∷◌, ◌++◌, ap, arith, drop, length, refl, replicate, slice_index, slice_index_or, subst, suc, sym, zero}
use Rattle.std.proofs.lemmas.List.{append-nil}
use Rattle.std.proofs.Common.{IfNone, IfSome, None, Option, Some}
use Rattle.least_costs.specs.declared.start.Start.{Start}
use Rattle.least_costs.specs.Costs.{IsCostTo, IsLeastCost, IsUnreached}
use Rattle.least_costs.specs.Network.{NetworkSeen}
use Rattle.least_costs.specs.Taken.{AreFor, AreTaken}

-- what `to` says where it gives a cost and where it gives none, as one
pub cost-told : (net : NetworkSeen) (from : Start) (v : ℕ) (found : Option ℕ)
    → IfSome found (IsLeastCost net from v) → IfNone found (IsUnreached net from v) → IsCostTo net from v found
cost-told net from v (Some cost) some none = some
cost-told net from v None some none = none

-- an entry more
pub for-more : {A B : Type 0} (IsFor : A → B → Type 0) (xs : List A) (ys : List B) (x : A) (y : B)
    → AreFor IsFor xs ys → IsFor x y → AreFor IsFor (xs ++ x ∷ []) (ys ++ y ∷ [])
for-more IsFor [] [] x y are is = (is, tt)
for-more IsFor [] (first ∷ ys) x y are is = absurd are
for-more IsFor (first ∷ xs) [] x y are is = absurd are
for-more IsFor (first ∷ xs) (other ∷ ys) x y are is = (are.0, for-more IsFor xs ys x y are.1 is)

-- there are as many entries
pub for-length : {A B : Type 0} (IsFor : A → B → Type 0) (xs : List A) (ys : List B)
    → AreFor IsFor xs ys → length ys ≡ length xs
for-length IsFor [] [] are = refl
for-length IsFor [] (y ∷ ys) are = absurd are
for-length IsFor (x ∷ xs) [] are = absurd are
for-length IsFor (x ∷ xs) (y ∷ ys) are = omega (arith, for-length IsFor xs ys are.1)

-- the entry at a place; what stands there if the list ends before does not matter
pub for-at : {B : Type 0} (IsFor : ℕ → B → Type 0) (xs : List ℕ) (ys : List B) (k : ℕ) (other : B)
    → AreFor IsFor xs ys → k < length xs → IsFor (slice_index xs k) (slice_index_or ys k other)
for-at IsFor [] ys k other are inside = absurd (omega (arith, inside))
for-at IsFor (x ∷ xs) [] k other are inside = absurd are
for-at IsFor (x ∷ xs) (y ∷ ys) zero other are inside = are.0
for-at IsFor (x ∷ xs) (y ∷ ys) (suc k) other are inside = for-at IsFor xs ys k other are.1 (omega (arith, inside))

-- one entry for all
pub for-same : {A B : Type 0} (IsFor : A → B → Type 0) (xs : List A) (y : B)
    → ((x : A) → IsFor x y) → AreFor IsFor xs (replicate (length xs) y)
for-same IsFor [] y is = tt
for-same IsFor (x ∷ xs) y is = (is x, for-same IsFor xs y is)

append-shift : (xs : List ℕ) (x : ℕ) (ys : List ℕ) → xs ++ x ∷ ys ≡ (xs ++ x ∷ []) ++ ys
append-shift [] x ys = refl
append-shift (y ∷ xs) x ys = ap (λ (zs : List ℕ). y ∷ zs) (append-shift xs x ys)

-- before the first source nothing was taken
pub taken-none : {B : Type 0} (IsFor : ℕ → B → Type 0) (sources : List ℕ) → AreTaken IsFor sources sources []
taken-none IsFor sources = record { taken = []; whole = refl; each = tt }

-- the source that came next has its entry
pub taken-more : {B : Type 0} (IsFor : ℕ → B → Type 0) (sources left new : List ℕ) (entries : List B) (entry : B)
    → AreTaken IsFor sources left entries
    → 0 < length left
    → new ≡ drop 1 left
    → IsFor (slice_index left 0) entry
    → AreTaken IsFor sources new (entries ++ entry ∷ [])
taken-more IsFor sources [] new entries entry are some rest is = absurd (omega (arith, some))
taken-more IsFor sources (source ∷ left) new entries entry are some rest is = record {
  taken = are.taken ++ source ∷ [];
  whole = rw rest (are.whole ∙ append-shift are.taken source left);
  each = for-more IsFor are.taken entries source entry are.each is;
}

-- after the last one all have theirs
pub taken-all : {B : Type 0} (IsFor : ℕ → B → Type 0) (sources left : List ℕ) (entries : List B)
    → AreTaken IsFor sources left entries → left ≡ [] → AreFor IsFor sources entries
taken-all IsFor sources left entries are none =
    subst (λ (xs : List ℕ). AreFor IsFor xs entries)
    (sym (are.whole ∙ ap (λ (ys : List ℕ). are.taken ++ ys) none ∙ append-nil are.taken))
    are.each
