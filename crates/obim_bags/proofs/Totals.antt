-- What passes put and got, added up.
use Rattle.std.proofs.Common.{◌≡◌, ◌∙◌, ap, sym, refl, ℕ, ◌+◌, List, [], ◌∷◌, ◌++◌, reverse, append_assoc, arith}
use Rattle.std.specs.Prelude.{All, Option, slice_get, sum_by}
use Rattle.std.proofs.lemmas.List.{map-append}
use Rattle.std.proofs.lemmas.List.Sums.{sum_by-append, sum_by-cons}
use Rattle.std.proofs.lemmas.List.Elements.{All-head, All-tail}
use Rattle.std.proofs.lemmas.Grind.{reverse_onto}
use Rattle.obim_bags.specs.Chunks.{ChunkSeen}
use Rattle.obim_bags.specs.BagRule.{weight_of, new_tally, shares_of}
use Rattle.obim_bags.specs.declared.bag_rule.Tally.{Tally}
use Rattle.obim_bags.specs.Bags.{AreAdded, AreSettled, BagSeen, PassSeen, new_pass, tallies_of}
use Rattle.obim_bags.specs.Logs.{MirrorSeen, AccessSeen, pass_in, passes_at}
use Rattle.obim_bags.specs.Entries.{unclaimed_of}
use Rattle.obim_bags.specs.Settling.{passes_in, accesses_of}

abbrev total : (Tally → ℕ) → List PassSeen → ℕ
total weigh passes = sum_by weigh (tallies_of passes)

total_append : (weigh : Tally → ℕ) (xs ys : List PassSeen) → total weigh (xs ++ ys) ≡ total weigh xs + total weigh ys
total_append weigh xs ys =
    ap (sum_by weigh) (map-append (λ (pass : PassSeen). pass.tally) xs ys)
    ∙ sum_by-append weigh (tallies_of xs) (tallies_of ys)

-- passes that have put and got nothing weigh nothing
total_of_new : (bag : BagSeen) (weigh : Tally → ℕ) → weigh (new_tally 1 bag.workers) ≡ 0 → (added : List PassSeen)
    → All (λ (pass : PassSeen). pass ≡ new_pass bag) added → total weigh added ≡ 0
total_of_new bag weigh none [] all = refl
total_of_new bag weigh none (pass ∷ added) all =
    let first : weigh pass.tally ≡ 0 =
    ap (λ (p : PassSeen). weigh p.tally) (All-head (λ (p : PassSeen). p ≡ new_pass bag) pass added all) ∙ none in
    let rest = total_of_new bag weigh none added (All-tail (λ (p : PassSeen). p ≡ new_pass bag) pass added all) in
    omega (arith, sum_by-cons weigh pass.tally (tallies_of added))

-- what is settled among passes and new ones is settled among the passes
pub settled_of_some : (bag : BagSeen) (passes all : List PassSeen) (left : List ChunkSeen) → AreAdded bag passes all
    → AreSettled all left
    → AreSettled passes left
settled_of_some bag passes all left added settled weight =
    let put = λ (tally : Tally). weight_of weight tally.put in
    let got = λ (tally : Tally). weight_of weight tally.got in
    let whole = settled weight in
    let put_all = ap (total put) added.last ∙ total_append put passes added.added in
    let got_all = ap (total got) added.last ∙ total_append got passes added.added in
    omega (
      arith,
      total_of_new bag put refl added.added added.are_new,
      total_of_new bag got refl added.added
          added.are_new,
    )

pub passes_append : (place : ℕ) (xs ys : List (List AccessSeen))
    → passes_in place (xs ++ ys) ≡ passes_in place xs ++ passes_in place ys
passes_append place [] ys = refl
passes_append place (x ∷ xs) ys =
    ap (λ (passes : List PassSeen). pass_in (slice_get x place) ++ passes) (passes_append place xs ys)
    ∙ sym (append_assoc (pass_in (slice_get x place)) (passes_in place xs) (passes_in place ys))

total_reverse : (weigh : Tally → ℕ) (place : ℕ) (held : List (List AccessSeen))
    → total weigh (passes_in place (reverse held)) ≡ total weigh (passes_in place held)
total_reverse weigh place [] = refl
total_reverse weigh place (x ∷ held) =
    let last = passes_append place (reverse held) (x ∷ []) in
    let split = total_append weigh (passes_in place (reverse held)) (passes_in place (x ∷ [])) in
    let one = total_append weigh (pass_in (slice_get x place)) [] in
    let more = total_append weigh (pass_in (slice_get x place)) (passes_in place held) in
    let rest = total_reverse weigh place held in
    ap (λ (ls : List (List AccessSeen)). total weigh (passes_in place ls)) (reverse_onto held x [])
    ∙ ap (total weigh) last ∙ omega (arith, split, one, more, rest)

-- the order of the lists doesn't count
pub settled_reverse : (place : ℕ) (held : List (List AccessSeen)) (left : List ChunkSeen)
    → AreSettled (passes_in place (reverse held)) left
    → AreSettled (passes_in place held) left
settled_reverse place held left settled weight =
    let put = λ (tally : Tally). weight_of weight tally.put in
    let got = λ (tally : Tally). weight_of weight tally.got in
    omega (arith, settled weight, total_reverse put place held, total_reverse got place held)

pub passes_of_mirrors : (place : ℕ) (mirrors : List MirrorSeen)
    → passes_at place mirrors ≡ passes_in place (accesses_of mirrors)
passes_of_mirrors place [] = refl
passes_of_mirrors place (mirror ∷ mirrors) =
    ap (λ (passes : List PassSeen). pass_in (slice_get mirror.accesses place) ++ passes)
    (passes_of_mirrors place mirrors)

-- ---- shares

abbrev share_of : Tally → ℕ
share_of tally = tally.share

unclaimed_append : (xs ys : List (Option AccessSeen)) → unclaimed_of (xs ++ ys) ≡ unclaimed_of xs ++ unclaimed_of ys
unclaimed_append [] ys = refl
unclaimed_append (x ∷ xs) ys =
    ap (λ (passes : List PassSeen). pass_in x ++ passes) (unclaimed_append xs ys)
    ∙ sym (append_assoc (pass_in x) (unclaimed_of xs) (unclaimed_of ys))

-- the last of the accesses moved its pass to these
pub shares_moved : (passes new : List PassSeen) (accesses rest : List (Option AccessSeen)) (place : Option AccessSeen)
    → accesses ≡ rest ++ place ∷ [] → new ≡ passes ++ pass_in place
    → shares_of (tallies_of (new ++ unclaimed_of rest)) ≡ shares_of (tallies_of (passes ++ unclaimed_of accesses))
shares_moved passes new accesses rest place is put =
    let last = unclaimed_of (place ∷ []) in
    let whole = ap (λ (ps : List (Option AccessSeen)). total share_of (passes ++ unclaimed_of ps)) is
    ∙ ap (λ (ps : List PassSeen). total share_of (passes ++ ps)) (unclaimed_append rest (place ∷ [])) in
    let moved = ap (λ (ps : List PassSeen). total share_of (ps ++ unclaimed_of rest)) put in
    let same : total share_of (new ++ unclaimed_of rest) ≡ total share_of (passes ++ unclaimed_of accesses) =
    omega (
      arith,
      whole,
      moved,
      total_append share_of (passes ++ pass_in place) (unclaimed_of rest),
      total_append share_of passes (pass_in place),
      total_append share_of passes (unclaimed_of rest ++ last),
      total_append share_of (unclaimed_of rest) last,
      total_append share_of (pass_in place) [],
    ) in
    same
