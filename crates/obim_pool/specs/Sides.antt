-- A side of an ObimPool, as contracts see it.
use Rattle.std.specs.Prelude.{◌≡◌, ◌≢◌, ℕ, ◌≤◌, ◌<◌, ⊤, min, List, [], ◌∷◌, map, length, Option, Some, None, slice_get}
use Rattle.std.specs.Prelude.{get_or}
use mathlib.Core.List.{IsPrefix}
use Rattle.atomic_table.specs.Seated.{TableId}
use Rattle.obim_bags.specs.Logs.{MirrorSeen, AccessSeen, WasEmptyIfAloneAt, metrics_in, new_mirror}
use Rattle.obim_pool.specs.declared.order.OwnBag.{OwnBag}
use Rattle.obim_pool.specs.declared.chunks.BagChunks.{BagChunks}
use Rattle.obim_pool.specs.Accounts.{Account, FindsMore, Gets, OnlyLooks, Puts, account_of}
use Rattle.obim_pool.specs.Orders.{IsAt, IsOrder}

-- its mirror of the log; by place, the vertices that it holds of its own bags, the first of the mirror; and its current
-- metric
pub record SideSeen : Type 0 where
  pub mirror : MirrorSeen
  pub held : List (List ℕ)
  pub current : Option ℕ

abbrev pub IsSideOf : TableId → SideSeen → Type 0
IsSideOf log side = side.mirror.log ≡ log

-- a side without a bag and without a current metric
abbrev pub new_side : TableId → SideSeen
new_side log = record { mirror = new_mirror log; held = []; current = None }

abbrev pub mirrors_of : List SideSeen → List MirrorSeen
mirrors_of sides = map (λ (side : SideSeen). side.mirror) sides

-- the account of a place, of a list of accesses and a list of what is held
abbrev pub account_in : ℕ → List AccessSeen → List (List ℕ) → Account
account_in place accesses held = account_of (slice_get accesses place) (get_or held place [])

-- the side's account of the bag at a place
abbrev pub account_at : ℕ → SideSeen → Account
account_at place side = account_in place side.mirror.accesses side.held

-- the bag at this place is one of the side's own, and this is its metric
abbrev pub IsOwn : ℕ → ℕ → SideSeen → Type 0
IsOwn place metric side = (place < length side.held) × (slice_get (metrics_in side.mirror.accesses) place ≡ Some metric)

-- a side stays of its log, and bags keep their places
pub record Keeps (old new : SideSeen) : Type 0 where
  pub log : new.mirror.log ≡ old.mirror.log
  pub bags : IsPrefix (metrics_in old.mirror.accesses) (metrics_in new.mirror.accesses)
  pub own : length old.held ≤ length new.held

-- ---- push

-- the vertex went into the bag of the metric, and the account of each other bag is as before
pub record PushesTo (metric vertex : ℕ) (old new : SideSeen) : Type 0 where
  pub place : ℕ
  pub own : IsOwn place metric new
  pub here : Puts (vertex ∷ []) (account_at place old) (account_at place new)
  pub others : (other : ℕ) → other ≢ place → account_at other new ≡ account_at other old

-- no vertex went into any bag
abbrev pub PushesNone : SideSeen → SideSeen → Type 0
PushesNone old new = (place : ℕ) → Puts [] (account_at place old) (account_at place new)

-- the lower of the metric and the current one before is current; the metric where none was
abbrev pub HasLowered : ℕ → Option ℕ → Option ℕ → Type 0
HasLowered metric None new = new ≡ Some metric
HasLowered metric (Some current) new = new ≡ Some (min metric current)

-- ---- pop

-- the vertex came out of the bag that is then current, and of other bags the side only counted empty finds
pub record Pops (vertex : ℕ) (old new : SideSeen) : Type 0 where
  pub place : ℕ
  pub metric : ℕ
  pub current : new.current ≡ Some metric
  pub own : IsOwn place metric new
  pub here : Gets vertex (account_at place old) (account_at place new)
  pub others : (other : ℕ) → other ≢ place → OnlyLooks (account_at other old) (account_at other new)

-- The side holds nothing of the bag at this place, and found it empty in the call: once, or perhaps twice if it was
-- current.
pub record FoundEmptyAt (place : ℕ) (old new : SideSeen) : Type 0 where
  pub bare : get_or new.held place [] ≡ []
  pub count : ℕ
  pub some : 1 ≤ count
  pub few : count ≤ 2
  pub finds : FindsMore count (account_at place old) (account_at place new)
  pub alone : WasEmptyIfAloneAt place new.mirror

-- where the current metric changed, each of the side's own bags below the new one was found empty
abbrev pub HasLookedBelow : SideSeen → SideSeen → Type 0
HasLookedBelow old new =
    (current : ℕ) → new.current ≡ Some current → new.current ≢ old.current
    → (place metric : ℕ) → IsOwn place metric new → metric < current → FoundEmptyAt place old new

-- no metric is current, each of the side's own bags was found empty, and of each bag it only counted empty finds
pub record PopsNone (old new : SideSeen) : Type 0 where
  pub current : new.current ≡ None
  pub found : (place : ℕ) → place < length new.held → FoundEmptyAt place old new
  pub others : (place : ℕ) → OnlyLooks (account_at place old) (account_at place new)

-- ---- what is so of every side between two calls: no promise to callers

abbrev pub current_of : Option OwnBag → Option ℕ
current_of None = None
current_of (Some at) = Some at.metric

abbrev pub IsCurrent : List ℕ → ℕ → Option OwnBag → Type 0
IsCurrent metrics count None = ⊤
IsCurrent metrics count (Some at) = IsAt metrics count at

-- it has no more bags than the mirror, knows them by rising metric, and one of them is current, if any
pub record IsSide (mirror : MirrorSeen) (chunks : List BagChunks) (entries : List OwnBag)
    (current : Option OwnBag) : Type 0 where
  pub own : length chunks ≤ length mirror.accesses
  pub order : IsOrder entries (length chunks) (metrics_in mirror.accesses)
  pub current_is : IsCurrent (metrics_in mirror.accesses) (length chunks) current
