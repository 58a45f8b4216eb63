-- Lists that others begin with.
use Rattle.std.proofs.Common.{◌≡◌, ◌∙◌, ap, refl, sym, ℕ, zero, suc, ◌≤◌, List, [], ◌∷◌, ◌++◌, map, length, Some}
use Rattle.std.proofs.Common.{arith, append_assoc, length-append}
use Rattle.std.specs.Prelude.{slice_get}
use Rattle.std.proofs.lemmas.List.{append-nil, map-append}
use mathlib.Core.List.{IsPrefix}

pub prefix_self : {A : Type 0} (xs : List A) → IsPrefix xs xs
prefix_self xs = ([], append-nil xs)

pub prefix_longer : {A : Type 0} (xs ys : List A) → IsPrefix xs (xs ++ ys)
prefix_longer xs ys = (ys, refl)

pub prefix_trans : {A : Type 0} (xs ys zs : List A) → IsPrefix xs ys → IsPrefix ys zs → IsPrefix xs zs
prefix_trans xs ys zs p q = (p.0 ++ q.0, sym (append_assoc xs p.0 q.0) ∙ (ap (λ w. w ++ q.0) p.1 ∙ q.1))

pub prefix_length : {A : Type 0} (xs ys : List A) → IsPrefix xs ys → length xs ≤ length ys
prefix_length xs ys p = omega (arith, sym (ap length p.1) ∙ length-append xs p.0)

pub prefix_map : {A B : Type 0} (f : A → B) (xs ys : List A) → IsPrefix xs ys → IsPrefix (map f xs) (map f ys)
prefix_map f xs ys p = (map f p.0, sym (map-append f xs p.0) ∙ ap (map f) p.1)

-- what stands in a beginning stands in the whole, at the same place
pub prefix_get : {A : Type 0} (xs ys : List A) (k : ℕ) (x : A) → IsPrefix xs ys → slice_get xs k ≡ Some x
    → slice_get ys k ≡ Some x
prefix_get [] ys k x p h = absurd cc
prefix_get (y ∷ xs) [] k x p h = absurd (cc (p.1))
prefix_get (y ∷ xs) (z ∷ ys) zero x p h = cc (p.1, h)
prefix_get (y ∷ xs) (z ∷ ys) (suc k) x p h = prefix_get xs ys k x (p.0, cc (p.1)) h

-- a beginning as long as the whole is the whole
pub prefix_whole : {A : Type 0} (xs ys : List A) → IsPrefix xs ys → length ys ≤ length xs → xs ≡ ys
prefix_whole [] [] p le = refl
prefix_whole [] (y ∷ ys) p le = absurd (omega arith)
prefix_whole (x ∷ xs) [] p le = absurd (cc (p.1))
prefix_whole (x ∷ xs) (y ∷ ys) p le =
    let rest = prefix_whole xs ys (p.0, cc (p.1)) (omega arith) in cc (p.1, rest)

-- a beginning grows by what comes next
pub prefix_next : {A : Type 0} (xs ys : List A) (y : A) → IsPrefix xs ys → slice_get ys (length xs) ≡ Some y
    → IsPrefix (xs ++ y ∷ []) ys
prefix_next [] [] y p at = absurd cc
prefix_next [] (z ∷ ys) y p at = (ys, cc at)
prefix_next (x ∷ xs) [] y p at = absurd (cc (p.1))
prefix_next (x ∷ xs) (z ∷ ys) y p at =
    let rest = prefix_next xs ys y (p.0, cc (p.1)) at in (rest.0, cc (p.1, rest.1))
