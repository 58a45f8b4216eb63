-- No pass put or got anything, so no part of what is left has a chunk.
use Rattle.std.proofs.Common.{◌≡◌, ◌∙◌, refl, ℕ, suc, ◌+◌, List, [], ◌∷◌, ◌++◌, Some, None, arith}
use Rattle.std.specs.Prelude.{Option, slice_get}
use Rattle.std.proofs.lemmas.List.Sums.{sum_by-cons}
use Rattle.atomic_table.specs.Seated.{TableId}
use Rattle.obim_bags.specs.Chunks.{ChunkSeen}
use Rattle.obim_bags.specs.BagRule.{got_by, put_by, weight_of}
use Rattle.obim_bags.specs.Bags.{tallies_of}
use Rattle.obim_bags.specs.Logs.{Gains, IsLogSettled, IsNew, MirrorSeen, AccessSeen, all_of, new_mirror, pass_in}
use Rattle.obim_bags.proofs.Facts.{all_at}
use Rattle.worklist_tests.proofs.bags.callers.drain_unused.Goals as goal

-- each chunk counts as one
abbrev one : ChunkSeen → ℕ
one _ = 1

put_nothing : (found : Option AccessSeen) → ((place : AccessSeen) → found ≡ Some place → IsNew place)
    → put_by one (tallies_of (pass_in found ++ [])) ≡ 0
put_nothing None new = refl
put_nothing (Some place) new =
    rw (new place refl) (omega (arith, sum_by-cons (λ tally. weight_of one tally.put) place.pass.tally []))

got_nothing : (found : Option AccessSeen) → ((place : AccessSeen) → found ≡ Some place → IsNew place)
    → got_by one (tallies_of (pass_in found ++ [])) ≡ 0
got_nothing None new = refl
got_nothing (Some place) new =
    rw (new place refl) (omega (arith, sum_by-cons (λ tally. weight_of one tally.got) place.pass.tally []))

no_chunk : (part : List ChunkSeen) → weight_of one part ≡ 0 → part ≡ []
no_chunk [] none = refl
no_chunk (chunk ∷ chunks) none = absurd (omega (arith, none, sum_by-cons one chunk chunks))

none_left : (parts : List (List ChunkSeen))
    → ((place : ℕ) (part : List ChunkSeen) → slice_get parts place ≡ Some part → part ≡ []) → all_of parts ≡ []
none_left [] empty = refl
none_left (part ∷ parts) empty = rw (empty 0 part refl) (none_left parts (λ place. empty (suc place)))

unused : (log : TableId) (first : MirrorSeen) (left : List ChunkSeen) → Gains (new_mirror log) first
    → IsLogSettled (first ∷ new_mirror log ∷ []) left → left ≡ []
unused log first left gains settled =
    settled.left_is
    ∙ none_left settled.parts (λ place part at.
    let found = slice_get first.accesses place in
    let new = λ (here : AccessSeen) (is : found ≡ Some here). all_at IsNew first.accesses place here gains.gained is in
    let balance : put_by one (tallies_of (pass_in found ++ []))
    ≡ got_by one (tallies_of (pass_in found ++ [])) + weight_of one part
    = settled.settled place part at one in
    no_chunk part (omega (arith, balance, put_nothing found new, got_nothing found new)))

pub returns : goal.returns
returns g c =
    unused c.args.log.now _ _ (rw c.requires.first at c.place_in.ensures.gains)
    (rw c.requires.second at c.in_ok-left.ensures.settled)
