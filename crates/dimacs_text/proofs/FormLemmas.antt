-- What the fields of a line say as numbers within limits.
use Rattle.std.proofs.Common.{◌≡◌, ℕ, zero, suc, ◌^◌, ◌<◌, Bool, true, false, ◌&&◌, leb, eqb, cond, List, [], ◌∷◌}
use Rattle.std.proofs.Common.{◌++◌, length, Option, Some, None, Result, Ok, Err, option_map, refl, ap, ap₂}
use Rattle.std.proofs.Common.{arith, eq-eqb, option_and_then, append_assoc}
use Rattle.std.specs.Option.{option_or}
use Rattle.std.proofs.lemmas.Grind.{common_steps}
use Rattle.std.proofs.lemmas.Bool.{and_parts}
use Rattle.std.proofs.lemmas.Bool.Decides.{nat_tests}
use Rattle.dimacs_text.specs.declared.form.Limit.{Limit}
use Rattle.dimacs_text.specs.declared.fault.LineKind.{LineKind}
use Rattle.dimacs_text.specs.Lines.{number}
use Rattle.dimacs_text.specs.reader.Pieces.{capped}
use Rattle.dimacs_text.specs.reader.Entries.{AreWithin}
use Rattle.dimacs_text.specs.Forms.{numbers, numbers_within, in_limits, checked}
use Rattle.dimacs_text.specs.declared.fault.LineKind.TheVariants as kinds

-- what is said in the end, from the numbers so far and those that follow, where something may be wrong
abbrev pub said_with : Option LineKind → List ℕ → List Limit → Option (List ℕ) → Result (List ℕ) LineKind
said_with wrong vs ls None = Err kinds.Number
said_with None vs ls (Some ws) = cond (in_limits ls ws) (Ok (vs ++ ws)) (Err kinds.Range)
said_with (Some kind) vs ls (Some ws) = Err kind

abbrev pub said_after : Option LineKind → List ℕ → List Limit → List (List ℕ) → Result (List ℕ) LineKind
said_after wrong vs ls fs =
    cond (eqb (length fs) (length ls)) (said_with wrong vs ls (numbers fs)) (Err kinds.Fields)

pub said_first : (ls : List Limit) (fs : List (List ℕ)) → numbers_within ls fs ≡ said_after None [] ls fs
unfolding numbers_within
said_first ls fs = ap (λ r. cond (eqb (length fs) (length ls)) r (Err kinds.Fields)) (same (numbers fs))
  where
    same : (o : Option (List ℕ)) → checked ls o ≡ said_with None [] ls o
    same None = refl
    same (Some vs) = refl

-- a step of the reading, for whatever the fields after it say
said_more : (wrong wrong' : Option LineKind) (vs vs' : List ℕ) (l : Limit) (ls : List Limit)
    (f : List ℕ) (fs : List (List ℕ))
    → ((p : Option (List ℕ))
    → said_with wrong vs (l ∷ ls) (option_and_then (λ v. option_map (λ us. v ∷ us) p) (number f))
    ≡ said_with wrong' vs' ls p)
    → said_after wrong vs (l ∷ ls) (f ∷ fs) ≡ said_after wrong' vs' ls fs
said_more wrong wrong' vs vs' l ls f fs same =
    let count : eqb (length (f ∷ fs)) (length (l ∷ ls)) ≡ eqb (length fs) (length ls) = grind (arith, nat_tests) in
    ap₂ (λ b r. cond b r (Err kinds.Fields)) count (same (numbers fs))

-- a field more is no number,
pub said_no_number : (wrong : Option LineKind) (vs vs' : List ℕ) (l : Limit) (ls : List Limit)
    (f : List ℕ) (fs : List (List ℕ))
    → None ≡ option_map capped (number f)
    → said_after wrong vs (l ∷ ls) (f ∷ fs) ≡ said_after (Some kinds.Number) vs' ls fs
said_no_number wrong vs vs' l ls f fs e =
    said_more wrong (Some kinds.Number) vs vs' l ls f fs (λ p. same (number f) p e)
  where
    same : (o : Option ℕ) (p : Option (List ℕ))
        → None ≡ option_map capped o
        → said_with wrong vs (l ∷ ls) (option_and_then (λ v. option_map (λ us. v ∷ us) p) o)
        ≡ said_with (Some kinds.Number) vs' ls p
    same (Some v) p is = absurd (cc)
    same None None is = refl
    same None (Some us) is = refl

-- or a number, within the limit or out of range
pub said_number : (test : Bool) (wrong : Option LineKind) (vs vs' : List ℕ) (l : Limit) (ls : List Limit)
    (value : ℕ) (f : List ℕ) (fs : List (List ℕ))
    → l.most < 2 ^ 32 → Some value ≡ option_map capped (number f)
    → (leb l.least value && leb value l.most) ≡ test → (test ≡ true → vs' ≡ vs ++ value ∷ [])
    → said_after wrong vs (l ∷ ls) (f ∷ fs)
    ≡ said_after (cond test wrong (option_or wrong (Some kinds.Range))) vs' ls fs
said_number test wrong vs vs' l ls value f fs small e within next =
    said_more wrong (cond test wrong (option_or wrong (Some kinds.Range))) vs vs' l ls f fs
    (λ p. same test wrong (number f) p e within next)
  where
    same : (t : Bool) (w : Option LineKind) (o : Option ℕ) (p : Option (List ℕ))
        → Some value ≡ option_map capped o
        → (leb l.least value && leb value l.most) ≡ t → (t ≡ true → vs' ≡ vs ++ value ∷ [])
        → said_with w vs (l ∷ ls) (option_and_then (λ v. option_map (λ us. v ∷ us) p) o)
        ≡ said_with (cond t w (option_or w (Some kinds.Range))) vs' ls p
    same t w None p is test next = absurd (cc)
    same t w (Some v) None is test next = refl
    same true (Some kind) (Some v) (Some us) is test next = refl
    same false (Some kind) (Some v) (Some us) is test next = refl
    same true None (Some v) (Some us) is test next =
        let cap : value ≡ capped v = cc in
        let exact : v ≡ value = grind (arith, nat_tests) in
        rw (exact, test, next refl, append_assoc) refl
    same false None (Some v) (Some us) is test next =
        let cap : value ≡ capped v = cc in
        let out : (leb l.least v && leb v l.most) ≡ false = grind (arith, nat_tests) in
        rw out refl

-- numbers within their limits are those of the fields
pub exact_numbers : (ls : List Limit) (fs : List (List ℕ)) (vs : List ℕ)
    → length fs ≡ length ls → numbers fs ≡ Some vs → in_limits ls vs ≡ true
    → numbers_within ls fs ≡ Ok vs
unfolding numbers_within
exact_numbers ls fs vs e is within = rw (eq-eqb (length fs) (length ls) e, is, within) refl

-- numbers that are said are within their limits
pub said_within : (ls : List Limit) (fs : List (List ℕ)) (vs : List ℕ)
    → numbers_within ls fs ≡ Ok vs
    → in_limits ls vs ≡ true
unfolding numbers_within
said_within ls fs vs e = by_cases (eqb (length fs) (length ls)) (numbers fs) e
  where
    by_cases : (count : Bool) (o : Option (List ℕ))
        → cond count (checked ls o) (Err kinds.Fields) ≡ Ok vs
        → in_limits ls vs ≡ true
    by_cases false o f = absurd (cc)
    by_cases true None f = absurd (cc)
    by_cases true (Some ws) f = grind (arith, common_steps)

pub are_within : (ls : List Limit) (vs : List ℕ) → in_limits ls vs ≡ true → AreWithin ls vs
are_within [] vs e k h = absurd (omega arith)
are_within (l ∷ ls) [] e k h = absurd (cc)
are_within (l ∷ ls) (v ∷ vs) e zero h = grind (arith, nat_tests)
are_within (l ∷ ls) (v ∷ vs) e (suc k) h =
    are_within ls vs (and_parts (leb l.least v && leb v l.most) (in_limits ls vs) e).1 k (omega arith)
