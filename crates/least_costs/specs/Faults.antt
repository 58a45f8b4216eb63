-- Why no network is made.
use Rattle.std.specs.Prelude.{◌≡◌, ℕ, ◌+◌, ◌<◌, ◌≤◌, ◌⊎◌, List, length, take, slice_get, Some, All, ⊤}
use Rattle.route_walks.specs.declared.graph.ArcRec.{ArcRec}
use Rattle.route_walks.specs.declared.graph.TheConstants.{MAX_ARCS, MAX_VERTICES}
use Rattle.route_walks.specs.Walk.{IsArcBelow}
use Rattle.least_costs.specs.declared.fault.NetworkFault.{NetworkFault}
use Rattle.least_costs.specs.declared.fault.NetworkFault.TheVariants as fault
use Rattle.least_costs.specs.declared.network.TheConstants.{MOST_ARCS}
use Rattle.least_costs.specs.Network.{NetworkSeen, arcs_of}

-- the arc at a place is the first whose ends are not both among n vertices
pub record IsFirstOutside (n : ℕ) (arcs : List ArcRec) (place : ℕ) : Type 0 where
  pub arc : ArcRec
  pub here : slice_get arcs place ≡ Some arc
  pub outside : (n ≤ arc.tail) ⊎ (n ≤ arc.head)
  pub before : All (IsArcBelow n) (take place arcs)

-- what a fault says of n vertices and these arcs
abbrev pub IsNetworkFault : ℕ → List ArcRec → NetworkFault → Type 0
IsNetworkFault n arcs fault.Vertices = MAX_VERTICES < n
IsNetworkFault n arcs fault.Arcs = MOST_ARCS < length arcs
IsNetworkFault n arcs (fault.Outside place) = IsFirstOutside n arcs place
IsNetworkFault n arcs fault.Memory = ⊤

-- what a fault says of a network and arcs that are to be added
abbrev pub IsGrowthFault : NetworkSeen → List ArcRec → NetworkFault → Type 0
IsGrowthFault net added fault.Vertices = ⊥
IsGrowthFault net added fault.Arcs = MAX_ARCS < length net.arcs + length (arcs_of net.cost added)
IsGrowthFault net added (fault.Outside place) = IsFirstOutside net.n added place
IsGrowthFault net added fault.Memory = ⊤
