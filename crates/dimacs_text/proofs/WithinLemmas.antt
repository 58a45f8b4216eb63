-- The two numbers of a section within a bound.
use Rattle.std.proofs.Common.{◌≡◌, ◌≢◌, ◌≤◌, ◌<◌, ℕ, ◌-◌, true, false, ◌&&◌, leb, cond, List, [], ◌∷◌, length, get_or}
use Rattle.std.proofs.Common.{Option, Some, None, Result, Ok, Err, IfSome, option_map, option_and_then, refl, sym, ap, ◌∙◌, arith}
use Rattle.std.proofs.lemmas.Bool.{and_parts, ne_eqb}
use Rattle.std.proofs.lemmas.Bool.Decides.{nat_tests}
use Rattle.route_walks.specs.declared.graph.TheConstants.{INF}
use Rattle.dimacs_text.specs.declared.fault.LineKind.{LineKind}
use Rattle.dimacs_text.specs.declared.fault.LineKind.TheVariants.{Fields, Number, Range}
use Rattle.dimacs_text.specs.declared.form.TheConstants.{MAX_QUERIES}
use Rattle.dimacs_text.specs.Lines.{number}
use Rattle.dimacs_text.specs.Forms.{checked, in_limits, numbers, numbers_within, up_to}
use Rattle.dimacs_text.specs.AfterGraph.{first_number, within_limits}
use Rattle.dimacs_text.specs.reader.Pieces.{capped}
use Rattle.dimacs_text.proofs.FormLemmas.{said_within}

-- what two fields say, by the number that each is
abbrev of_two : Option ℕ → Option ℕ → Result (List ℕ) LineKind
of_two o p =
    checked within_limits
    (option_and_then (λ v. option_map (λ vs. v ∷ vs) (option_and_then (λ w. option_map (λ vs. w ∷ vs) (Some [])) p)) o)

two_say : (f g : List ℕ) → numbers_within within_limits (f ∷ g ∷ []) ≡ of_two (number f) (number g)
unfolding numbers_within
two_say f g = refl

pub wrong_count : (fs : List (List ℕ)) → length fs ≢ 2 → Err Fields ≡ numbers_within within_limits fs
unfolding numbers_within
wrong_count fs other =
    sym (ap (λ b. cond b (checked within_limits (numbers fs)) (Err Fields)) (ne_eqb (length fs) 2 other))

pub first_no_number : (f g : List ℕ)
    → None ≡ option_map capped (number f)
    → Err Number ≡ numbers_within within_limits (f ∷ g ∷ [])
first_no_number f g none = sym (two_say f g ∙ by_number (number f) none)
  where
    by_number : (o : Option ℕ) → None ≡ option_map capped o → of_two o (number g) ≡ Err Number
    by_number None e = refl
    by_number (Some v) e = absurd (cc)

pub second_no_number : (f g : List ℕ)
    → None ≡ option_map capped (number g)
    → Err Number ≡ numbers_within within_limits (f ∷ g ∷ [])
second_no_number f g none = sym (two_say f g ∙ by_numbers (number f) (number g) none)
  where
    by_numbers : (o p : Option ℕ) → None ≡ option_map capped p → of_two o p ≡ Err Number
    by_numbers o (Some w) e = absurd (cc)
    by_numbers None None e = refl
    by_numbers (Some v) None e = refl

pub bound_too_large : (f g : List ℕ) (v w : ℕ)
    → Some v ≡ option_map capped (number f) → Some w ≡ option_map capped (number g) → INF ≤ v
    → Err Range ≡ numbers_within within_limits (f ∷ g ∷ [])
bound_too_large f g v w first second large =
    sym (two_say f g ∙ by_numbers (number f) (number g) first second)
  where
    by_numbers : (o p : Option ℕ) → Some v ≡ option_map capped o → Some w ≡ option_map capped p → of_two o p ≡ Err Range
    by_numbers None p e d = absurd (cc)
    by_numbers (Some x) None e d = absurd (cc)
    by_numbers (Some x) (Some y) e d =
        let cap : v ≡ capped x = cc in
        let least : leb 0 x ≡ true = grind (arith, nat_tests) in
        let out : leb x (INF - 1) ≡ false = grind (arith, nat_tests) in
        rw (least, out) refl

pub too_many_sources : (f g : List ℕ) (v w : ℕ)
    → Some v ≡ option_map capped (number f) → Some w ≡ option_map capped (number g) → v < INF → MAX_QUERIES < w
    → Err Range ≡ numbers_within within_limits (f ∷ g ∷ [])
too_many_sources f g v w first second small large =
    sym (two_say f g ∙ by_numbers (number f) (number g) first second)
  where
    by_numbers : (o p : Option ℕ) → Some v ≡ option_map capped o → Some w ≡ option_map capped p → of_two o p ≡ Err Range
    by_numbers None p e d = absurd (cc)
    by_numbers (Some x) None e d = absurd (cc)
    by_numbers (Some x) (Some y) e d =
        let cap : v ≡ capped x = cc in
        let cap_of_w : w ≡ capped y = cc in
        let least : leb 0 x ≡ true = grind (arith, nat_tests) in
        let inside : leb x (INF - 1) ≡ true = grind (arith, nat_tests) in
        let least_of_y : leb 0 y ≡ true = grind (arith, nat_tests) in
        let out : leb y MAX_QUERIES ≡ false = grind (arith, nat_tests) in
        rw (least, inside, least_of_y, out) refl

pub two_within : (f g : List ℕ) (v w : ℕ)
    → Some v ≡ option_map capped (number f) → Some w ≡ option_map capped (number g) → v < INF → w ≤ MAX_QUERIES
    → Ok (v ∷ w ∷ []) ≡ numbers_within within_limits (f ∷ g ∷ [])
two_within f g v w first second small few =
    sym (two_say f g ∙ by_numbers (number f) (number g) first second)
  where
    by_numbers : (o p : Option ℕ)
        → Some v ≡ option_map capped o → Some w ≡ option_map capped p
        → of_two o p ≡ Ok (v ∷ w ∷ [])
    by_numbers None p e d = absurd (cc)
    by_numbers (Some x) None e d = absurd (cc)
    by_numbers (Some x) (Some y) e d =
        let cap : v ≡ capped x = cc in
        let cap_of_w : w ≡ capped y = cc in
        let exact : x ≡ v = grind (arith, nat_tests) in
        let exact_too : y ≡ w = grind (arith, nat_tests) in
        let least : leb 0 v ≡ true = grind (arith, nat_tests) in
        let inside : leb v (INF - 1) ≡ true = grind (arith, nat_tests) in
        let least_too : leb 0 w ≡ true = grind (arith, nat_tests) in
        let inside_too : leb w MAX_QUERIES ≡ true = grind (arith, nat_tests) in
        rw (exact, exact_too, least, inside, least_too, inside_too) refl

-- a bound is a cost
pub bound_within : (fs : List (List ℕ)) (res : Result (List ℕ) LineKind)
    → numbers_within within_limits fs ≡ res
    → IfSome (first_number res) (λ bound. bound < INF)
bound_within fs (Err kind) is = tt
bound_within fs (Ok vs) is = by_list vs (said_within within_limits fs vs is)
  where
    by_list : (vs : List ℕ) → in_limits within_limits vs ≡ true → get_or vs 0 0 < INF
    by_list [] e = absurd (cc)
    by_list (v ∷ vs) e =
        let both = and_parts (leb 0 v && leb v (INF - 1)) (in_limits (up_to MAX_QUERIES ∷ []) vs) e in
        let bound = and_parts (leb 0 v) (leb v (INF - 1)) both.0 in
        let high = bound.1 in
        grind (arith, nat_tests)
