-- What a filter keeps where its test passes everywhere or nowhere, and two filters in either order.
use Rattle.std.proofs.Common.{◌≡◌, ap, refl, Bool, true, false, List, [], ◌∷◌, arith}
use Rattle.std.specs.Prelude.{filter, All}
use Rattle.std.proofs.lemmas.List.Elements.{All-head, All-tail}

pub filter_all : {X : Type 0} (p : X → Bool) (xs : List X) → All (λ x. p x ≡ true) xs → filter p xs ≡ xs
filter_all p [] passes = refl
filter_all p (x ∷ xs) passes =
    rw (All-head (λ y. p y ≡ true) x xs passes)
    (ap (λ ys. x ∷ ys) (filter_all p xs (All-tail (λ y. p y ≡ true) x xs passes)))

pub filter_none : {X : Type 0} (p : X → Bool) (xs : List X) → All (λ x. p x ≡ false) xs → filter p xs ≡ []
filter_none p [] fails = refl
filter_none p (x ∷ xs) fails =
    rw (All-head (λ y. p y ≡ false) x xs fails) (filter_none p xs (All-tail (λ y. p y ≡ false) x xs fails))

-- two tests in either order
filter_step : {X : Type 0} (p q : X → Bool) (x : X) (xs : List X) (a b : Bool) → p x ≡ a → q x ≡ b
    → filter p (filter q xs) ≡ filter q (filter p xs)
    → filter p (filter q (x ∷ xs)) ≡ filter q (filter p (x ∷ xs))
filter_step p q x xs true true a b same = grind (arith, a, b, same)
filter_step p q x xs true false a b same = grind (arith, a, b, same)
filter_step p q x xs false true a b same = grind (arith, a, b, same)
filter_step p q x xs false false a b same = grind (arith, a, b, same)

pub filter-filter : {X : Type 0} (p q : X → Bool) (xs : List X) → filter p (filter q xs) ≡ filter q (filter p xs)
filter-filter p q [] = refl
filter-filter p q (x ∷ xs) = filter_step p q x xs (p x) (q x) refl refl (filter-filter p q xs)
