-- What a side's calls do to its bags, one at a time and all together.
use Rattle.std.specs.Prelude.{◌≡◌, ◌≢◌, ℕ, ◌≤◌, ◌<◌, List, [], ◌⊎◌, length, Some, None, slice_get, slice_set}
use mathlib.Core.List.{IsPrefix}
use Rattle.obim_bags.specs.Logs.{MirrorSeen, AccessSeen, WasEmptyIfAloneAt, metrics_in}
use Rattle.obim_pool.specs.declared.chunks.BagChunks.{BagChunks}
use Rattle.obim_pool.specs.declared.order.OwnBag.{OwnBag}
use Rattle.obim_pool.specs.Accounts.{Account, FindsMore, Gets, OnlyLooks, account_of}
use Rattle.obim_pool.specs.Held.{held_of, all_held}
use Rattle.obim_pool.specs.Sides.{Pops, IsOwn, SideSeen, account_at, account_in}

-- One bag changed so, which is at this place, and nothing else of the mirror did.
pub record OneBag (Changes : Account → Account → Type 0) (place : ℕ)
    (old : MirrorSeen) (old_chunks : BagChunks) (new : MirrorSeen) (new_chunks : BagChunks) : Type 0 where
  pub was : AccessSeen
  pub is : AccessSeen
  pub was_there : slice_get old.accesses place ≡ Some was
  pub is_there : new ≡ record old { accesses = slice_set old.accesses place is }
  pub bag : is.bag ≡ was.bag
  pub change : Changes (account_of (Some was) (held_of old_chunks)) (account_of (Some is) (held_of new_chunks))

-- one empty find more, and nothing is held
pub record OneFind (old new : Account) : Type 0 where
  pub looks : OnlyLooks old new
  pub finds : FindsMore 1 old new
  pub bare : new.held ≡ []

-- the bag at this place was found empty, and nothing is held of it
pub record FindsEmpty (place : ℕ) (old : MirrorSeen) (old_chunks : BagChunks) (new : MirrorSeen)
    (new_chunks : BagChunks) : Type 0 where
  pub here : OneBag OneFind place old old_chunks new new_chunks
  pub alone : WasEmptyIfAloneAt place new

-- The mirror and what the side has room for may have grown. No account changed.
pub record Grows (old : MirrorSeen) (old_chunks : List BagChunks) (new : MirrorSeen)
    (new_chunks : List BagChunks) : Type 0 where
  pub log : new.log ≡ old.log
  pub bags : IsPrefix (metrics_in old.accesses) (metrics_in new.accesses)
  pub own : length old_chunks ≤ length new_chunks
  pub fits : length new_chunks ≤ length new.accesses
  pub accounts : (place : ℕ)
      → account_in place new.accesses (all_held new_chunks) ≡ account_in place old.accesses (all_held old_chunks)

-- the bag at this place was found empty, once, and nothing is held of it
pub record IsBare (place : ℕ) (old : MirrorSeen) (old_chunks : List BagChunks) (new : MirrorSeen)
    (new_chunks : List BagChunks) : Type 0 where
  pub find : OneFind (account_in place old.accesses (all_held old_chunks))
      (account_in place new.accesses (all_held new_chunks))
  pub alone : WasEmptyIfAloneAt place new

-- each bag of the order was found empty, and of each bag the side only counted empty finds
pub record AreBare (entries : List OwnBag) (old : MirrorSeen) (old_chunks : List BagChunks) (new : MirrorSeen)
    (new_chunks : List BagChunks) : Type 0 where
  pub bare : (rank : ℕ) (at : OwnBag) → slice_get entries rank ≡ Some at → IsBare at.place old old_chunks new new_chunks
  pub others : (place : ℕ)
      → OnlyLooks (account_in place old.accesses (all_held old_chunks))
      (account_in place new.accesses (all_held new_chunks))

-- the vertex came out of the bag of this entry, each bag before it was found empty, and of others the side only counted
-- empty finds
pub record Draws (at : OwnBag) (vertex : ℕ) (entries : List OwnBag)
    (old : MirrorSeen) (old_chunks : List BagChunks) (new : MirrorSeen) (new_chunks : List BagChunks) : Type 0 where
  pub rank : ℕ
  pub there : slice_get entries rank ≡ Some at
  pub here : Gets vertex (account_in at.place old.accesses (all_held old_chunks))
      (account_in at.place new.accesses (all_held new_chunks))
  pub before : (lower : ℕ) (bare : OwnBag) → lower < rank → slice_get entries lower ≡ Some bare
      → IsBare bare.place old old_chunks new new_chunks
  pub others : (place : ℕ) → place ≢ at.place
      → OnlyLooks (account_in place old.accesses (all_held old_chunks))
      (account_in place new.accesses (all_held new_chunks))

-- ---- what the parts of a side's pop do

-- Nothing but the count of empty finds of a bag changed, and that by one at most.
pub record TriesCurrent (old new : SideSeen) : Type 0 where
  pub log : new.mirror.log ≡ old.mirror.log
  pub bags : metrics_in new.mirror.accesses ≡ metrics_in old.mirror.accesses
  pub own : length new.held ≡ length old.held
  pub current : new.current ≡ old.current
  pub looks : (place : ℕ) → OnlyLooks (account_at place old) (account_at place new)
  pub finds : (place : ℕ)
      → ((account_at place new).empties ≡ (account_at place old).empties) ⊎ FindsMore 1 (account_at place old)
      (account_at place new)

-- the bag at this place was found empty, once, and nothing is held of it
pub record FoundOnceAt (place : ℕ) (old new : SideSeen) : Type 0 where
  pub find : OneFind (account_at place old) (account_at place new)
  pub alone : WasEmptyIfAloneAt place new.mirror

-- the vertex came out of the lowest of the side's own bags that wasn't found empty
pub record PopsLowest (vertex : ℕ) (old new : SideSeen) : Type 0 where
  pub pops : Pops vertex old new
  pub below : (place metric : ℕ) → IsOwn place metric new → metric < pops.metric → FoundOnceAt place old new

-- each of the side's own bags was found empty, once
pub record FindsAllEmpty (old new : SideSeen) : Type 0 where
  pub current : new.current ≡ None
  pub found : (place : ℕ) → place < length new.held → FoundOnceAt place old new
  pub others : (place : ℕ) → OnlyLooks (account_at place old) (account_at place new)
