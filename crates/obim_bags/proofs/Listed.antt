-- What stands at a place of a list.
use Rattle.std.proofs.Common.{Result, Ok, Err, ◌≡◌, ◌≢◌, ◌∙◌, ap, refl, subst, sym, ℕ, zero, suc, ◌<◌, List, [], ◌∷◌}
use Rattle.std.proofs.Common.{◌++◌, map, reverse, set, length, get_or, Some, None, inl, inr, ⊎_elim, ◌⊎◌, arith}
use Rattle.std.specs.Prelude.{slice_get, option_map, Option, IfNone, MatchOption, All, Bool, true, false}
use Rattle.std.specs.Bool.{OnTrue}
use Rattle.std.specs.Result.{IfErr, IsErrAnd}
use Rattle.std.proofs.lemmas.Option.{slice_get-map, slice_get-get_or, slice_get_within, get_or_from_slice_get}
use Rattle.std.proofs.lemmas.List.Elements.{All-cons, All-get_or, All-head, All-nil, All-tail}
use Rattle.std.proofs.lemmas.Grind.{reverse_onto}
use Rattle.std.proofs.Math.Seq.{map-set_same}

-- what a read within the list found stands there
pub found_at : {A : Type 0} (xs : List A) (i : ℕ) (x : A) → i < length xs → x ≡ get_or xs i x → slice_get xs i ≡ Some x
found_at xs i x within is = slice_get-get_or xs i x within ∙ ap Some (sym is)

-- there is something at a place within a list
pub some_at : {A : Type 0} (xs : List A) (i : ℕ) → i < length xs → (x : A) × (slice_get xs i ≡ Some x)
some_at [] i within = absurd (omega (arith, within))
some_at (x ∷ xs) zero within = (x, refl)
some_at (x ∷ xs) (suc i) within = some_at xs i (omega (arith, within))

pub at_map : {A B : Type 0} (f : A → B) (xs : List A) (i : ℕ) (x : A) → slice_get xs i ≡ Some x
    → slice_get (map f xs) i ≡ Some (f x)
at_map f xs i x at = slice_get-map f xs i ∙ ap (option_map f) at

-- an element is replaced by one that f can't tell from it
pub map_kept : {A B : Type 0} (f : A → B) (xs : List A) (i : ℕ) (x y : A) → slice_get xs i ≡ Some x → f y ≡ f x
    → map f (set xs i y) ≡ map f xs
map_kept f xs i x y at same = map-set_same f xs i y x (same ∙ ap f (sym (get_or_from_slice_get xs i x x at)))

pub at_set_else : {A : Type 0} (xs : List A) (i j : ℕ) (y : A) → j ≢ i → slice_get (set xs i y) j ≡ slice_get xs j
at_set_else [] i j y other = refl
at_set_else (x ∷ xs) zero zero y other = absurd (other refl)
at_set_else (x ∷ xs) zero (suc j) y other = refl
at_set_else (x ∷ xs) (suc i) zero y other = refl
at_set_else (x ∷ xs) (suc i) (suc j) y other = at_set_else xs i j y (λ e. other (ap suc e))

pub at_last : {A : Type 0} (xs : List A) (y : A) → slice_get (xs ++ y ∷ []) (length xs) ≡ Some y
at_last [] y = refl
at_last (x ∷ xs) y = at_last xs y

-- what follows from what is so where nothing is found
pub none_then : {A : Type 0} (P Q : Type 0) (found : Option A) → (P → Q) → IfNone found P → IfNone found Q
none_then P Q None then' was = then' was
none_then P Q (Some x) then' was = tt

-- what follows where nothing is found
pub none_gives : {A : Type 0} (P Q : Type 0) (R : A → Type 0) (found : Option A) → (P → Q) → MatchOption found P R
    → IfNone found Q
none_gives P Q R None gives was = gives was
none_gives P Q R (Some x) gives was = tt

-- what follows from what is so where the answer is true
pub true_then : (P Q : Type 0) (b : Bool) → (P → Q) → OnTrue b P → OnTrue b Q
true_then P Q true then' was = then' was
true_then P Q false then' was = tt

-- what follows from what is so of the fault that there is
pub err_and : {T E : Type 0} (result : Result T E) (P Q : E → Type 0) → IsErrAnd result P
    → ((fault : E) → P fault → Q fault) → IfErr result Q
err_and (Ok value) P Q is then' = tt
err_and (Err fault) P Q is then' = then' fault is

-- what follows where the answer is true
pub true_gives : (P Q : Type 0) (b : Bool) → (P → Q) → (b ≡ true → P) → OnTrue b Q
true_gives P Q true gives was = gives (was refl)
true_gives P Q false gives was = tt

-- what stands in a list with one element more stood there before or is that element
pub at_snoc : {A : Type 0} (xs : List A) (y x : A) (i : ℕ) → slice_get (xs ++ y ∷ []) i ≡ Some x
    → (slice_get xs i ≡ Some x) ⊎ ((i ≡ length xs) × (y ≡ x))
at_snoc [] y x zero at = inr (refl, cc at)
at_snoc [] y x (suc i) at = absurd cc
at_snoc (z ∷ xs) y x zero at = inl at
at_snoc (z ∷ xs) y x (suc i) at =
    ⊎_elim (λ old. inl old) (λ (new : (i ≡ length xs) × (y ≡ x)). inr (ap suc new.0, new.1)) (at_snoc xs y x i at)

-- what is so of each is so of what stands at a place
pub all_at : {A : Type 0} (P : A → Type 0) (xs : List A) (i : ℕ) (x : A) → All P xs → slice_get xs i ≡ Some x → P x
all_at P xs i x all at =
    subst P (get_or_from_slice_get xs i x x at) (All-get_or P xs i x (slice_get_within xs i x at) all)

pub all_split : {A : Type 0} (P : A → Type 0) (xs ys : List A) → All P (xs ++ ys) → All P xs × All P ys
all_split P [] ys all = (All-nil P, all)
all_split P (x ∷ xs) ys all =
    let rest = all_split P xs ys (All-tail P x (xs ++ ys) all) in
    (All-cons P x xs (All-head P x (xs ++ ys) all) rest.0, rest.1)

pub all_reverse : {A : Type 0} (P : A → Type 0) (xs : List A) → All P (reverse xs) → All P xs
all_reverse P [] all = All-nil P
all_reverse P (x ∷ xs) all =
    let parts = all_split P (reverse xs) (x ∷ []) (subst (All P) (reverse_onto xs x []) all) in
    All-cons P x xs (All-head P x [] parts.1) (all_reverse P xs parts.0)

pub all_mapped : {A B : Type 0} (P : B → Type 0) (f : A → B) (xs : List A) → All P (map f xs) → All (λ x. P (f x)) xs
all_mapped P f [] all = All-nil (λ x. P (f x))
all_mapped P f (x ∷ xs) all =
    All-cons (λ x. P (f x)) x xs (All-head P (f x) (map f xs) all) (all_mapped P f xs (All-tail P (f x) (map f xs) all))
