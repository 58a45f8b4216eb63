-- What callers know of what they asked.
use Rattle.std.specs.Prelude.{ℕ, ◌≤◌, List, Option, Some, None, All, Contains}
use Rattle.least_costs.specs.Costs.{IsCostTo, IsLeastCost, IsUnreached}
use Rattle.least_costs.specs.Network.{HasWalk, NetworkSeen}
use Rattle.least_costs.specs.Taken.{AreFor}
use Rattle.least_costs.specs.declared.start.Start.TheVariants as start
use Rattle.cost_examples.specs.declared.changes.Change.{Change}

-- the least costs from a source to each target
abbrev pub IsRow : NetworkSeen → List ℕ → ℕ → List (Option ℕ) → Type 0
IsRow net targets source row = AreFor (IsCostTo net (start.At source)) targets row

-- no walk from the depot to v costs less
abbrev pub IsFarther : NetworkSeen → ℕ → ℕ → ℕ → Type 0
IsFarther net v least depot = (cost : ℕ) → HasWalk net (start.At depot) v cost → least ≤ cost

-- no walk leads to v from any of the depots; or this is what it costs from one of them, and from none less
abbrev pub IsNearest : NetworkSeen → ℕ → List ℕ → Option (ℕ × ℕ) → Type 0
IsNearest net v depots None = All (λ depot. IsUnreached net (start.At depot) v) depots
IsNearest net v depots (Some best) =
    Contains depots best.0
    × IsLeastCost net (start.At best.0) v best.1
    × All (IsFarther net v best.1) depots

-- the least costs from a source to the target in a network and in another one
pub record IsChange (net grown : NetworkSeen) (target source : ℕ) (change : Change) : Type 0 where
  pub before : IsCostTo net (start.At source) target change.before
  pub after : IsCostTo grown (start.At source) target change.after
