-- What was written at a place of a list, and what was found.
use Rattle.std.proofs.Common.{◌≡◌, ap, refl, ℕ, zero, suc, List, [], ◌∷◌, set, Some, None}
use Rattle.std.specs.Prelude.{slice_get, Option, IfSome}

-- what follows from what is so of the thing that was found
pub some_then : {A : Type 0} (P Q : A → Type 0) (found : Option A) → ((x : A) → P x → Q x) → IfSome found P
    → IfSome found Q
some_then P Q None then' was = tt
some_then P Q (Some x) then' was = then' x was

-- what two finds of one thing found is one
pub some_same : {A : Type 0} {x y : A} → Some x ≡ Some y → x ≡ y
some_same same = cc same

-- what was written stands there
pub at_set : {A : Type 0} (xs : List A) (i : ℕ) (x y : A) → slice_get xs i ≡ Some x → slice_get (set xs i y) i ≡ Some y
at_set [] i x y at = absurd cc
at_set (z ∷ zs) zero x y at = refl
at_set (z ∷ zs) (suc i) x y at = at_set zs i x y at

-- of two values written at a place the second counts
pub set_twice : {A : Type 0} (xs : List A) (i : ℕ) (x y : A) → set (set xs i x) i y ≡ set xs i y
set_twice [] i x y = refl
set_twice (z ∷ zs) zero x y = refl
set_twice (z ∷ zs) (suc i) x y = ap (λ rest. z ∷ rest) (set_twice zs i x y)
