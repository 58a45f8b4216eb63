-- Lists of distinct metrics, looked up by a map.
use Rattle.std.specs.Prelude.{◌≡◌, ◌≢◌, ℕ, nat_eq, List, Some, slice_get, MatchOption}
use Rattle.std.specs.HashMap.{HashMap, get}

-- the metric stands at this place and nowhere else
abbrev pub IsAlone : ℕ → ℕ → List ℕ → Type 0
IsAlone metric place metrics =
    (slice_get metrics place ≡ Some metric) × ((other : ℕ) → slice_get metrics other ≡ Some metric → other ≡ place)

-- the metric stands nowhere
abbrev pub Lacks : ℕ → List ℕ → Type 0
Lacks metric metrics = (place : ℕ) → slice_get metrics place ≢ Some metric

-- no metric stands at two places
abbrev pub AreDistinct : List ℕ → Type 0
AreDistinct metrics =
    (place other metric : ℕ) → slice_get metrics place ≡ Some metric → slice_get metrics other ≡ Some metric
    → other ≡ place

-- the map gives each metric's place, and nothing for the others
abbrev pub AreIndexed : {S : Type 0} → HashMap ℕ ℕ S → List ℕ → Type 0
AreIndexed map metrics =
    (metric : ℕ) → MatchOption (get nat_eq map metric) (Lacks metric metrics) (λ place. IsAlone metric place metrics)
