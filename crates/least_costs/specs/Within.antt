-- Costs from a source that are at most a bound, as contracts see them.
use Rattle.std.specs.Prelude.{ℕ, ◌+◌, ◌<◌, ◌≤◌, List, min}
use Rattle.route_walks.specs.declared.graph.TheConstants.{INF}
use Rattle.route_walks.specs.Limit.{AreLeastLabelsUpTo}
use Rattle.route_walks.specs.Operators.{seeds_from}
use Rattle.least_costs.specs.Costs.{IsLeastCost}
use Rattle.least_costs.specs.Network.{HasWalk, IsNetwork, NetworkSeen}
use Rattle.least_costs.specs.declared.start.Start.TheVariants.{At}

-- the network, the source, and the most that a walk may cost
pub record WithinSeen : Type 0 where
  pub net : NetworkSeen
  pub source : ℕ
  pub bound : ℕ

-- the least cost of v is this, and at most the bound
pub record IsCostWithin (seen : WithinSeen) (v cost : ℕ) : Type 0 where
  pub least : IsLeastCost seen.net (At seen.source) v cost
  pub within : cost ≤ seen.bound

-- each walk to v costs more than the bound
abbrev pub IsBeyond : WithinSeen → ℕ → Type 0
IsBeyond seen v = (cost : ℕ) → HasWalk seen.net (At seen.source) v cost → seen.bound < cost

-- ---- what the labels are that are kept; not part of what a caller is promised

pub record AreLabelsWithin (seen : WithinSeen) (labels : List ℕ) : Type 0 where
  pub network : IsNetwork seen.net
  pub source : seen.source < seen.net.n
  pub within : seen.bound ≤ INF
  pub up : AreLeastLabelsUpTo (min (seen.bound + 1) INF) seen.net.n seen.net.arcs (seeds_from seen.source) labels
