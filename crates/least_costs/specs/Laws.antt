-- What follows from the definitions alone.
use Rattle.std.specs.Prelude.{◌≡◌, ℕ, ◌<◌, List, ◌++◌, Option, slice_index}
use Rattle.route_walks.specs.declared.graph.ArcRec.{ArcRec}
use Rattle.least_costs.specs.declared.cost.Cost.{Cost}
use Rattle.least_costs.specs.declared.start.Start.{Start}
use Rattle.least_costs.specs.Costs.{AreLeastFrom, IsCostTo, label_of}
use Rattle.least_costs.specs.Network.{arcs_of, GrowsTo, IsNetwork, IsNetworkOf, IsStartWithin, NetworkSeen}

-- a network that grew is that of the arcs before and the added ones
abbrev pub NetworksGrow : Type 0
NetworksGrow =
    (n : ℕ) (kind : Cost) (arcs added : List ArcRec) (net grown : NetworkSeen)
    → IsNetworkOf n kind arcs net
    → GrowsTo net grown
    → grown.cost ≡ net.cost
    → grown.added ≡ arcs_of kind added
    → IsNetworkOf n kind (arcs ++ added) grown

-- networks of the same arcs have the same costs
abbrev pub CostsFollowTheArcs : Type 0
CostsFollowTheArcs =
    (n : ℕ) (kind : Cost) (arcs : List ArcRec) (one other : NetworkSeen) (from : Start) (v : ℕ)
    (here there : Option ℕ)
    → IsNetworkOf n kind arcs one
    → IsNetworkOf n kind arcs other
    → IsCostTo one from v here
    → IsCostTo other from v there
    → here ≡ there

-- what a vertex costs is its label among the least labels from the start
abbrev pub CostsAreLabels : Type 0
CostsAreLabels =
    (net : NetworkSeen) (from : Start) (v : ℕ) (cost : Option ℕ)
    → IsNetwork net
    → IsStartWithin net.n from
    → v < net.n
    → IsCostTo net from v cost
    → (labels : List ℕ) × AreLeastFrom net from labels × (label_of cost ≡ slice_index labels v)
