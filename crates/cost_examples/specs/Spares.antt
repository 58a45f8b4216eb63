-- The nearest depot of a customer, and the one to take if that is closed.
use Rattle.std.specs.Prelude.{◌≢◌, ℕ, ◌≤◌, List, All, Contains}
use Rattle.least_costs.specs.Costs.{IsLeastCost, IsUnreached}
use Rattle.least_costs.specs.Network.{NetworkSeen}
use Rattle.least_costs.specs.declared.start.Start.TheVariants as start
use Rattle.cost_examples.specs.Callers.{IsFarther}
use Rattle.cost_examples.specs.declared.choice.Choice.{Choice}
use Rattle.cost_examples.specs.declared.choice.Choices.{Choices}
use Rattle.cost_examples.specs.declared.choice.Choices.TheVariants as choices

-- one of the depots, and the least cost from it to v
abbrev pub IsChoice : NetworkSeen → ℕ → List ℕ → Choice → Type 0
IsChoice net v depots c = Contains depots c.depot × IsLeastCost net (start.At c.depot) v c.cost

-- no depot reaches v; or this one alone does; or these two are the nearest ones, and no depot besides is nearer
abbrev pub AreNearest : NetworkSeen → ℕ → List ℕ → Choices → Type 0
AreNearest net v depots choices.Nowhere = All (λ depot. IsUnreached net (start.At depot) v) depots
AreNearest net v depots (choices.One best) =
    IsChoice net v depots best × All (λ depot. depot ≢ best.depot → IsUnreached net (start.At depot) v) depots
AreNearest net v depots (choices.Two best next) =
    IsChoice net v depots best × IsChoice net v depots next
    × (best.depot ≢ next.depot) × (best.cost ≤ next.cost)
    × All (λ depot. depot ≢ best.depot → IsFarther net v next.cost depot) depots
