-- Costs as contracts see them.
use Rattle.std.specs.Prelude.{◌≡◌, ℕ, ◌<◌, ◌≤◌, List, All, length, slice_index, slice_index_or, Option, Some, None}
use Rattle.route_walks.specs.declared.graph.TheConstants.{INF}
use Rattle.route_walks.specs.Label.{AreLeastLabels, IsLeast}
use Rattle.least_costs.specs.Network.{IsNetwork, IsStartWithin, HasWalk, NetworkSeen, seeds_at}
use Rattle.least_costs.specs.declared.start.Start.{Start}
use Rattle.least_costs.specs.declared.start.Start.TheVariants as start

-- the costs from a start in a network; by vertex, its least cost or INF
pub record CostsSeen : Type 0 where
  pub net : NetworkSeen
  pub start : Start
  pub labels : List ℕ

-- some walk from the start to v has this cost, and none a lower one
pub record IsLeastCost (net : NetworkSeen) (from : Start) (v cost : ℕ) : Type 0 where
  pub attained : HasWalk net from v cost
  pub least : (other : ℕ) → HasWalk net from v other → cost ≤ other

-- no walk leads from the start to v
abbrev pub IsUnreached : NetworkSeen → Start → ℕ → Type 0
IsUnreached net from v = (cost : ℕ) → ¬ (HasWalk net from v cost)

-- what `to` gives: the least cost, or that there is no walk
abbrev pub IsCostTo : NetworkSeen → Start → ℕ → Option ℕ → Type 0
IsCostTo net from v (Some cost) = IsLeastCost net from v cost
IsCostTo net from v None = IsUnreached net from v

-- a cost as a label
abbrev pub label_of : Option ℕ → ℕ
label_of (Some cost) = cost
label_of None = INF

-- each vertex has its least label from the start
abbrev pub AreLeastFrom : NetworkSeen → Start → List ℕ → Type 0
AreLeastFrom net from labels = AreLeastLabels net.n net.arcs (seeds_at net.n from) labels

-- some vertices have their least labels
abbrev pub AreLeastAt : NetworkSeen → Start → List ℕ → List ℕ → Type 0
AreLeastAt net from labels vertices =
    All (λ v. IsLeast net.arcs (seeds_at net.n from) v (slice_index labels v)) vertices

-- the costs are those to these vertices, in their order
pub record AreCostsTo (net : NetworkSeen) (from : Start) (vertices : List ℕ) (costs : List (Option ℕ)) : Type 0 where
  pub count : length costs ≡ length vertices
  pub each : (k : ℕ) → k < length vertices → IsCostTo net from (slice_index vertices k) (slice_index_or costs k None)

-- what is so of all costs
pub record AreCosts (costs : CostsSeen) : Type 0 where
  pub network : IsNetwork costs.net
  pub within : IsStartWithin costs.net.n costs.start
  pub least : AreLeastFrom costs.net costs.start costs.labels

-- the costs are those in this network from this source
pub record IsFrom (net : NetworkSeen) (source : ℕ) (costs : CostsSeen) : Type 0 where
  pub net_is : costs.net ≡ net
  pub start_is : costs.start ≡ start.At source
