-- Bags of a side that are tried in turn.
use Rattle.std.proofs.Common.{◌≡◌, ◌≢◌, ◌∙◌, ap, refl, subst, sym, ℕ, ◌+◌, ◌≤◌, ◌<◌, List, length, get_or, set, Some}
use Rattle.std.proofs.Common.{⊎_elim, arith, below_more}
use Rattle.std.specs.Prelude.{slice_get}
use Rattle.std.proofs.lemmas.Bool.{cases_eq}
use Rattle.std.proofs.lemmas.Option.{slice_get-get_or, slice_get_within}
use Rattle.obim_bags.specs.Logs.{MirrorSeen, metrics_in}
use Rattle.obim_bags.proofs.Facts.{at_set_else}
use Rattle.obim_pool.specs.declared.chunks.BagChunks.{BagChunks}
use Rattle.obim_pool.specs.declared.order.OwnBag.{OwnBag}
use Rattle.obim_pool.specs.Accounts.{Account, Gets, OnlyLooks}
use Rattle.obim_pool.specs.Held.{all_held}
use Rattle.obim_pool.specs.Orders.{IsOrder}
use Rattle.obim_pool.specs.Sides.{account_in}
use Rattle.obim_pool.specs.Steps.{AreBare, Draws, FindsEmpty, IsBare, OneBag, OneFind}
use Rattle.obim_bags.proofs.Facts.{some_same}
use Rattle.obim_pool.proofs.Lifting.{Changed, changed_here, set_same}

-- The bags of the order before this rank were found empty, and the others' accounts are as before. Of no bag more than
-- the count of empty finds changed.
pub record Tried (rank : ℕ) (entries : List OwnBag)
    (old : MirrorSeen) (old_chunks : List BagChunks) (new : MirrorSeen) (new_chunks : List BagChunks) : Type 0 where
  pub log : new.log ≡ old.log
  pub bags : metrics_in new.accesses ≡ metrics_in old.accesses
  pub accesses : length new.accesses ≡ length old.accesses
  pub own : length new_chunks ≡ length old_chunks
  pub before : (lower : ℕ) → lower < rank → (at : OwnBag) → slice_get entries lower ≡ Some at
      → IsBare at.place old old_chunks new new_chunks
  pub later : (higher : ℕ) (at : OwnBag) → rank ≤ higher → slice_get entries higher ≡ Some at
      → account_in at.place new.accesses (all_held new_chunks) ≡ account_in at.place old.accesses (all_held old_chunks)
  pub others : (place : ℕ)
      → OnlyLooks (account_in place old.accesses (all_held old_chunks))
      (account_in place new.accesses (all_held new_chunks))

-- at first no bag was tried
pub tried_none : (entries : List OwnBag) (mirror : MirrorSeen) (chunks : List BagChunks)
    → Tried 0 entries mirror chunks mirror chunks
tried_none entries mirror chunks = record {
  log = refl;
  bags = refl;
  accesses = refl;
  own = refl;
  before = λ lower less. absurd (omega arith);
  later = λ higher at from there. refl;
  others = λ place. record { put = refl; got = refl; held = refl };
}

-- the same of a mirror that is as it was
pub tried_still : {rank : ℕ} {entries : List OwnBag} {old mid new : MirrorSeen} {old_chunks mid_chunks : List BagChunks}
    → new ≡ mid
    → Tried rank entries old old_chunks mid mid_chunks → Tried rank entries old old_chunks new mid_chunks
tried_still {rank} {entries} {old} {mid} {new} {old_chunks} {mid_chunks} same tried =
    subst (λ (mirror : MirrorSeen). Tried rank entries old old_chunks mirror mid_chunks) (sym same) tried

-- to look twice is to look
pub looks_then : {a b c : Account} → OnlyLooks a b → OnlyLooks b c → OnlyLooks a c
looks_then first second = record {
  put = second.put ∙ first.put;
  got = second.got ∙ first.got;
  held = second.held ∙ first.held;
}

-- an account that is as before was looked at at most
pub looks_same : {a b : Account} → b ≡ a → OnlyLooks a b
looks_same {a} same = subst (OnlyLooks a) (sym same) (record { put = refl; got = refl; held = refl })

-- where one bag was found empty, of no bag more than the count changed
pub find_looks : {place : ℕ} {old new : MirrorSeen} {old_chunks new_chunks : List BagChunks}
    → Changed OneFind place old old_chunks new new_chunks
    → (other : ℕ) → OnlyLooks (account_in other old.accesses (all_held old_chunks))
    (account_in other new.accesses (all_held new_chunks))
find_looks {place} {old} {new} {old_chunks} {new_chunks} change other =
    let looks = λ (q : ℕ). OnlyLooks (account_in q old.accesses (all_held old_chunks))
    (account_in q new.accesses (all_held new_chunks)) in
    ⊎_elim (λ (same : other ≡ place). subst looks (sym same) change.here.looks)
    (λ (apart : other ≢ place). looks_same (change.others other apart))
    (cases_eq other place)

-- a bag that was found empty stays so while another one changes
pub bare_stays : {Changes : Account → Account
    → Type 0} {place : ℕ} {old mid new : MirrorSeen} {old_chunks mid_chunks new_chunks : List BagChunks} {k k' :
    BagChunks}
    → (bare : ℕ) → bare ≢ place → IsBare bare old old_chunks mid mid_chunks → OneBag Changes place mid k new k'
    → Changed Changes place mid mid_chunks new new_chunks → IsBare bare old old_chunks new new_chunks
bare_stays {place = place} {old = old} {mid = mid} {new = new} {old_chunks = old_chunks} bare apart was one change =
    let there : slice_get new.accesses bare ≡ slice_get mid.accesses bare =
    ap (λ (m : MirrorSeen). slice_get m.accesses bare) one.is_there
    ∙ at_set_else mid.accesses place bare one.is apart in
    record {
      find = subst (OneFind (account_in bare old.accesses (all_held old_chunks)))
          (sym (change.others bare apart)) was.find;
      alone = (was.alone.0, there ∙ was.alone.1, was.alone.2);
    }

-- each entry of the order is one of the side's own bags, however many were tried
pub tried_own : {rank : ℕ} {entries : List OwnBag} {at : OwnBag} {metrics : List ℕ} {old new : MirrorSeen} {old_chunks
    new_chunks : List BagChunks} (entry : ℕ)
    → IsOrder entries (length old_chunks) metrics → Tried rank entries old old_chunks new new_chunks
    → slice_get entries entry ≡ Some at
    → at.place < length new_chunks
tried_own {at = at} entry order tried there =
    let own = tried.own in
    omega (arith, (order.are entry at there).0)

-- a bag more was found empty
pub tried_next : (rank : ℕ) (entries : List OwnBag) (at : OwnBag) (metrics : List ℕ) (old mid new : MirrorSeen)
    (old_chunks mid_chunks : List BagChunks) (k k' : BagChunks)
    → IsOrder entries (length old_chunks) metrics → slice_get entries rank ≡ Some at → k ≡ get_or mid_chunks at.place k
    → Tried rank entries old old_chunks mid mid_chunks → FindsEmpty at.place mid k new k'
    → Tried (rank + 1) entries old old_chunks new (set mid_chunks at.place k')
tried_next rank entries at metrics old mid new old_chunks mid_chunks k k' order here read tried finds =
    let change = changed_here OneFind at.place mid_chunks (tried_own rank order tried here) read finds.here in
    let was = tried.later rank at (omega arith) here in
    let apart =
    λ (other : ℕ) (also : OwnBag) (there : slice_get entries other ≡ Some also) (e : other ≢ rank)
    (same : also.place ≡ at.place).
    e (order.once other rank also at there here same) in
    let bare : IsBare at.place old old_chunks new (set mid_chunks at.place k') =
    record {
      find = subst
          (λ (a : Account). OneFind a (account_in at.place new.accesses (all_held (set mid_chunks at.place k')))) was
          change.here;
      alone = finds.alone;
    } in
    record {
      log = change.log ∙ tried.log;
      bags = change.bags ∙ tried.bags;
      accesses = change.accesses ∙ tried.accesses;
      own = change.own ∙ tried.own;
      before =
          below_more
          (λ lower. (also : OwnBag) → slice_get entries lower ≡ Some also
          → IsBare also.place old old_chunks new (set mid_chunks at.place k')) rank
          (λ lower less also there. bare_stays also.place (apart lower also there (omega arith))
          (tried.before lower less also there) finds.here change)
          (λ also there. subst (λ (a : OwnBag). IsBare a.place old old_chunks new (set mid_chunks at.place k'))
          (some_same (sym here ∙ there)) bare);
      later = λ higher also from there.
          change.others also.place (apart higher also there (omega arith))
          ∙ tried.later higher also (omega arith) there;
      others = λ place. looks_then (tried.others place) (find_looks change place);
    }

-- the same, where the side's two chunks of it are as they were
pub tried_bare : (rank : ℕ) (entries : List OwnBag) (at : OwnBag) (metrics : List ℕ) (old mid new : MirrorSeen)
    (old_chunks mid_chunks : List BagChunks) (k : BagChunks)
    → IsOrder entries (length old_chunks) metrics → slice_get entries rank ≡ Some at → k ≡ get_or mid_chunks at.place k
    → Tried rank entries old old_chunks mid mid_chunks → FindsEmpty at.place mid k new k
    → Tried (rank + 1) entries old old_chunks new mid_chunks
tried_bare rank entries at metrics old mid new old_chunks mid_chunks k order here read tried finds =
    let there = slice_get-get_or mid_chunks at.place k (tried_own rank order tried here) in
    subst (Tried (rank + 1) entries old old_chunks new) (set_same mid_chunks at.place k (there ∙ ap Some (sym read)))
    (tried_next rank entries at metrics old mid new old_chunks mid_chunks k k order here read tried finds)

-- a bag gave a vertex
pub tried_draws : (rank v : ℕ) (entries : List OwnBag) (at : OwnBag) (metrics : List ℕ) (old mid new : MirrorSeen)
    (old_chunks mid_chunks : List BagChunks) (k k' : BagChunks)
    → IsOrder entries (length old_chunks) metrics → slice_get entries rank ≡ Some at → k ≡ get_or mid_chunks at.place k
    → Tried rank entries old old_chunks mid mid_chunks → OneBag (Gets v) at.place mid k new k'
    → Draws at v entries old old_chunks new (set mid_chunks at.place k')
tried_draws rank v entries at metrics old mid new old_chunks mid_chunks k k' order here read tried gets =
    let change = changed_here (Gets v) at.place mid_chunks (tried_own rank order tried here) read gets in
    let was = tried.later rank at (omega arith) here in
    record {
      rank = rank;
      there = here;
      here = subst
          (λ (a : Account). Gets v a (account_in at.place new.accesses (all_held (set mid_chunks at.place k')))) was
          change.here;
      before = λ lower also less there.
          bare_stays also.place (λ same. absurd (omega (arith, order.once lower rank also at there here same)))
          (tried.before lower less also there) gets change;
      others = λ place other. looks_then (tried.others place) (looks_same (change.others place other));
    }

-- all were tried
pub tried_all : (rank : ℕ) (entries : List OwnBag) (old new : MirrorSeen) (old_chunks new_chunks : List BagChunks)
    → length entries ≤ rank
    → Tried rank entries old old_chunks new new_chunks → AreBare entries old old_chunks new new_chunks
tried_all rank entries old new old_chunks new_chunks all tried = record {
  bare = λ lower at there. let within =
      slice_get_within entries lower at there in tried.before lower (omega arith) at there;
  others = tried.others;
}
