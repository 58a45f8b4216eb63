-- What a look into one bag and a vertex taken out of it do.
use Rattle.std.proofs.Common.{◌≡◌, ◌≢◌, ◌∙◌, ap, refl, subst, sym, ℕ, ◌<◌, List, [], ◌∷◌, ◌++◌, length, length-append}
use Rattle.std.proofs.Common.{Some, None, arith}
use Rattle.std.specs.Prelude.{Option, Box, IfNone, sum_by}
use Rattle.std.specs.declared.alloc.Global.{Global}
use Rattle.std.proofs.lemmas.List.{append-nil, nil_from_length}
use Rattle.std.proofs.lemmas.List.Sums.{sum_by-cons}
use Rattle.obim_bags.proofs.Facts.{at_set, some_same}
use Rattle.obim_bags.specs.BagRule.{WasEmptyIfAlone}
use Rattle.obim_bags.specs.Chunks.{ChunkSeen}
use Rattle.obim_bags.specs.Logs.{MirrorSeen, AccessSeen, ChangesAt, WasEmptyIfAloneAt, access_after_empty_find}
use Rattle.obim_pool.specs.declared.chunks.BagChunks.{BagChunks}
use Rattle.obim_pool.proofs.Lifting.{one_of_held}
use Rattle.obim_pool.specs.Accounts.{AreSame, Gets}
use Rattle.obim_pool.specs.Held.{held_of, vertices_in}
use Rattle.obim_pool.specs.Steps.{FindsEmpty, OneBag}

-- where there is no vertex, the same vertices are none
pub same_none : (xs : List ℕ) → AreSame [] xs → xs ≡ []
same_none [] same = refl
same_none (x ∷ xs) same = absurd (omega (arith, same (λ _. 1), sum_by-cons (λ _. 1) x xs))

-- an empty find at a place of which nothing is held, before and after
pub finds_bare : (place : ℕ) (old new : MirrorSeen) (old_chunks new_chunks : BagChunks)
    → ChangesAt place access_after_empty_find old new → WasEmptyIfAloneAt place old
    → held_of old_chunks ≡ [] → held_of new_chunks ≡ []
    → FindsEmpty place old old_chunks new new_chunks
finds_bare place old new old_chunks new_chunks changes empty none none' =
    let same : empty.0 ≡ changes.0 = some_same (sym empty.1 ∙ changes.1) in
    record {
      here = record {
        was = changes.0;
        is = access_after_empty_find changes.0;
        was_there = changes.1;
        is_there = changes.2;
        bag = refl;
        change = record {
          looks = record { put = refl; got = refl; held = none' ∙ sym none };
          finds = refl;
          bare = none';
        };
      };
      alone = (
        access_after_empty_find changes.0,
        rw changes.2 (at_set old.accesses place changes.0 (access_after_empty_find changes.0) changes.1),
        subst (λ (p : AccessSeen). WasEmptyIfAlone p.pass.tally) same empty.2,
      );
    }

-- a vertex that was taken out of what was held, and no chunk was got
pub takes_held : (place : ℕ) (mirror : MirrorSeen) (old new : BagChunks) (v : ℕ)
    → place < length mirror.accesses → AreSame (v ∷ held_of new) (held_of old)
    → OneBag (Gets v) place mirror old mirror new
takes_held place mirror old new v within same =
    one_of_held (Gets v) place mirror old new within (λ p. record {
      chunks = [];
      put = refl;
      got = sym (append-nil p.pass.tally.got);
      account = λ w. same w ∙ ap (sum_by w) (sym (append-nil (held_of old)));
    })

-- where a chunk that has a vertex drains, one is taken out
pub drains_some : (P : Type 0) (old new : BagChunks) (chunk : Box ChunkSeen Global) (found : Option ℕ)
    → old.draining ≡ Some chunk → chunk.value.vertices ≢ [] → new.filling ≡ old.filling
    → IfNone found (held_of new ≡ held_of old) → IfNone found (vertices_in new.draining ≡ []) → IfNone found P
drains_some P old new chunk (Some v) drains some filling held none = tt
drains_some P old new chunk None drains some filling held none =
    let before = length-append (vertices_in old.filling) (vertices_in old.draining) in
    let after = length-append (vertices_in new.filling) (vertices_in new.draining) in
    let same = ap length held in
    let fills = ap (λ f. length (vertices_in f)) filling in
    let empty = ap length none in
    let drained = ap (λ d. length (vertices_in d)) drains in
    absurd (some (nil_from_length chunk.value.vertices (omega arith)))

-- where nothing is taken out though the filling chunk became the draining one, nothing was held
pub drain_filling_finds : (place : ℕ) (m m' : MirrorSeen) (old mid new : BagChunks) (found : Option ℕ)
    → ChangesAt place access_after_empty_find m m' → WasEmptyIfAloneAt place m
    → AreSame (held_of mid) (held_of old) → mid.filling ≡ None → new.filling ≡ mid.filling
    → IfNone found (held_of new ≡ held_of mid) → IfNone found (vertices_in new.draining ≡ [])
    → IfNone found (FindsEmpty place m old m' new)
drain_filling_finds place m m' old mid new (Some v) changes empty same turned filling held none = tt
drain_filling_finds place m m' old mid new None changes empty same turned filling held none =
    let bare : held_of new ≡ [] = ap (λ f. vertices_in f ++ vertices_in new.draining) (filling ∙ turned) ∙ none in
    let was = same_none (held_of old) (λ w. ap (sum_by w) (sym bare ∙ held) ∙ same w) in
    finds_bare place m m' old new changes empty was bare

-- what is so in any case is so where there is none
pub at_none : {A P : Type 0} (found : Option A) → P → IfNone found P
at_none None p = p
at_none (Some x) p = tt
