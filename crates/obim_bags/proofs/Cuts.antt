-- Lists of accesses, of which some are cut at a place.
use Rattle.std.proofs.Common.{◌≡◌, ap, refl, ℕ, zero, suc, ◌<◌, ◌≤◌, List, [], ◌∷◌, map, set, take, length, Some, arith}
use Rattle.std.specs.Prelude.{slice_get}
use Rattle.obim_bags.specs.Logs.{AccessSeen, pass_in}
use Rattle.obim_bags.specs.Settling.{passes_in}

-- the first of these lists are cut at a place
abbrev pub cut : ℕ → ℕ → List (List AccessSeen) → List (List AccessSeen)
cut place zero held = held
cut place (suc n) [] = []
cut place (suc n) (x ∷ held) = take place x ∷ cut place n held

pub cut_at : (place n : ℕ) (held : List (List AccessSeen)) → slice_get (cut place n held) n ≡ slice_get held n
cut_at place zero held = refl
cut_at place (suc n) [] = refl
cut_at place (suc n) (x ∷ held) = cut_at place n held

pub cut_step : (place n : ℕ) (held : List (List AccessSeen)) (x : List AccessSeen) → slice_get held n ≡ Some x
    → set (cut place n held) n (take place x) ≡ cut place (suc n) held
cut_step place zero [] x at = absurd cc
cut_step place zero (y ∷ held) x at = let same : x ≡ y = cc at in ap (λ (z : List AccessSeen). take place z ∷ held) same
cut_step place (suc n) [] x at = absurd cc
cut_step place (suc n) (y ∷ held) x at =
    ap (λ (ls : List (List AccessSeen)). take place y ∷ ls) (cut_step place n held x at)

pub cut_all : (place n : ℕ) (held : List (List AccessSeen)) → length held ≤ n → cut place n held ≡ map (take place) held
cut_all place zero [] all = refl
cut_all place zero (x ∷ held) all = absurd (omega arith)
cut_all place (suc n) [] all = refl
cut_all place (suc n) (x ∷ held) all =
    ap (λ (ls : List (List AccessSeen)). take place x ∷ ls) (cut_all place n held (omega arith))

-- what a list has before the cut it has still
get_cut : (place n : ℕ) (xs : List AccessSeen) → place < n → slice_get (take n xs) place ≡ slice_get xs place
get_cut place zero xs below = absurd (omega arith)
get_cut place (suc n) [] below = refl
get_cut zero (suc n) (x ∷ xs) below = refl
get_cut (suc place) (suc n) (x ∷ xs) below = get_cut place n xs (omega arith)

pub passes_kept : (place n : ℕ) (held : List (List AccessSeen)) → place < n
    → passes_in place (map (take n) held) ≡ passes_in place held
passes_kept place n [] below = refl
passes_kept place n (x ∷ held) below =
    let first : pass_in (slice_get (take n x) place) ≡ pass_in (slice_get x place) =
    ap pass_in (get_cut place n x below) in
    let rest = passes_kept place n held below in cc
