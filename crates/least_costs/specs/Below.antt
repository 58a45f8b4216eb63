-- What a run knows of costs that goes no further than its goal, as contracts see it.
use Rattle.std.specs.Prelude.{ℕ, ◌≤◌, List}
use Rattle.label_words.specs.Closed.{IsEnd, closed_labels}
use Rattle.label_words.specs.declared.closed.Closed.{Closed}
use Rattle.route_walks.specs.declared.graph.TheConstants.{INF}
use Rattle.route_walks.specs.Limit.{AreLeastLabelsUpTo}
use Rattle.least_costs.specs.Network.{IsNetwork, IsStartWithin, NetworkSeen, graph_of, seeds_at}
use Rattle.least_costs.specs.declared.start.Start.{Start}

-- the labels from a start in a network, and up to which limit they are least
pub record BelowSeen : Type 0 where
  pub net : NetworkSeen
  pub start : Start
  pub limit : ℕ
  pub labels : List ℕ

-- each vertex has its least label from the start, up to the limit
abbrev pub AreLeastBelow : BelowSeen → Type 0
AreLeastBelow costs =
    AreLeastLabelsUpTo costs.limit costs.net.n costs.net.arcs (seeds_at costs.net.n costs.start) costs.labels

-- what is so of all such costs
pub record AreCostsBelow (costs : BelowSeen) : Type 0 where
  pub network : IsNetwork costs.net
  pub within : IsStartWithin costs.net.n costs.start
  pub low : costs.limit ≤ INF
  pub least : AreLeastBelow costs

-- ---- what a run left that can go on; not part of what a caller is promised

-- what is seen of what a run left
abbrev pub below_of : NetworkSeen → Start → ℕ → Closed → BelowSeen
below_of net start limit closed =
    record { net = net; start = start; limit = limit; labels = closed_labels closed }

-- a run from the start left it, and its labels are least up to the limit
pub record IsLeftBelow (net : NetworkSeen) (start : Start) (limit : ℕ) (closed : Closed) : Type 0 where
  pub end : IsEnd (graph_of net) (seeds_at net.n start) closed
  pub costs : AreCostsBelow (below_of net start limit closed)
