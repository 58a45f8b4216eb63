-- What stands in the slot of a log.
use Rattle.std.specs.Prelude.{◌≡◌, ℕ, ◌≤◌, ◌<◌, List, [], ◌∷◌, ◌++◌, map, length, Option, Some, slice_get, All}
use Rattle.obim_bags.specs.Bags.{AreAllPasses, BagSeen, PassSeen}
use Rattle.obim_bags.specs.Indexes.{AreDistinct}
use Rattle.obim_bags.specs.Logs.{AccessSeen, metrics_of, pass_in, IsNew}

-- an entry: its bag, and by worker the place that its mirror hasn't claimed yet
pub record EntrySeen : Type 0 where
  pub bag : BagSeen
  pub unclaimed : List (Option AccessSeen)

pub record EntriesSeen : Type 0 where
  pub list : List EntrySeen

abbrev pub bags_of : EntriesSeen → List BagSeen
bags_of entries = map (λ (entry : EntrySeen). entry.bag) entries.list

-- each unclaimed place is of the entry's bag, and its pass has put and got nothing
abbrev pub IsUnclaimed : BagSeen → Option AccessSeen → Type 0
IsUnclaimed bag unclaimed = (place : AccessSeen) → unclaimed ≡ Some place → (place.bag ≡ bag) × IsNew place

abbrev pub AreEntries : List EntrySeen → Type 0
AreEntries entries = AreDistinct (metrics_of (map (λ (entry : EntrySeen). entry.bag) entries))

-- the worker's place is still in the entry
abbrev pub HasAccessOf : ℕ → EntrySeen → Type 0
HasAccessOf worker entry = (place : AccessSeen) × (slice_get entry.unclaimed worker ≡ Some (Some place))

-- the entry at this place still has the worker's place
abbrev pub HasAccessAt : ℕ → ℕ → EntriesSeen → Type 0
HasAccessAt worker place entries =
    (entry : EntrySeen) × (slice_get entries.list place ≡ Some entry) × HasAccessOf worker entry

-- each entry from this place on does
abbrev pub HasAccessesFrom : ℕ → ℕ → EntriesSeen → Type 0
HasAccessesFrom worker first entries =
    (place : ℕ) → first ≤ place → place < length entries.list → HasAccessAt worker place entries

-- the passes of these accesses
abbrev pub unclaimed_of : List (Option AccessSeen) → List PassSeen
unclaimed_of [] = []
unclaimed_of (place ∷ accesses) = pass_in place ++ unclaimed_of accesses

-- these passes and those that are still in the entry have all shares of its bag
abbrev pub AreAllOf : EntrySeen → List PassSeen → Type 0
AreAllOf entry passes = AreAllPasses entry.bag (passes ++ unclaimed_of entry.unclaimed)

-- what is in the entry is of its bag
abbrev pub IsEntry : EntrySeen → Type 0
IsEntry entry = All (IsUnclaimed entry.bag) entry.unclaimed
