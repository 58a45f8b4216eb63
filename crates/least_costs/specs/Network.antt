-- A network as contracts see it, and where walks begin in it.
use Rattle.std.specs.Prelude.{◌≡◌, ℕ, ◌^◌, ◌<◌, ◌≤◌, List, ◌++◌, length}
use Rattle.std.specs.Prelude.{All, ⊤}
use Rattle.csr_graph.specs.Graph.{Graph, HaveSameRows}
use Rattle.route_walks.specs.declared.graph.ArcRec.{ArcRec}
use Rattle.route_walks.specs.declared.graph.Seed.{Seed}
use Rattle.route_walks.specs.declared.graph.TheConstants.{MAX_VERTICES}
use Rattle.route_walks.specs.Operators.{seeds_from, seeds_all, unit_weights, both_ways}
use Rattle.route_walks.specs.Walk.{IsAttained, IsGraph, HaveSameArcs}
use Rattle.least_costs.specs.declared.cost.Cost.{Cost}
use Rattle.least_costs.specs.declared.cost.Cost.TheVariants as cost
use Rattle.least_costs.specs.declared.start.Start.{Start}
use Rattle.least_costs.specs.declared.start.Start.TheVariants as start

-- of the arcs that are given those along which costs are least, by what an arc costs
abbrev pub arcs_of : Cost → List ArcRec → List ArcRec
arcs_of cost.Weight arcs = arcs
arcs_of cost.One arcs = unit_weights arcs
arcs_of cost.FreeBothWays arcs = both_ways arcs

-- a network: its vertices are the numbers below n; what an arc costs; the arcs along which costs are least, and those
-- of them that were added last
pub record NetworkSeen : Type 0 where
  pub n : ℕ
  pub cost : Cost
  pub arcs : List ArcRec
  pub added : List ArcRec

-- the graph of a network's rows
abbrev pub graph_of : NetworkSeen → Graph
graph_of net = record { n = net.n; arcs = net.arcs }

-- the weights of all arcs are below 2^32
abbrev pub AreLight : List ArcRec → Type 0
AreLight arcs = All (λ arc. arc.weight < 2 ^ 32) arcs

-- what is so of every network: its ends are vertices, and its limits are kept
pub record IsNetwork (net : NetworkSeen) : Type 0 where
  pub few : net.n ≤ MAX_VERTICES
  pub ends : IsGraph net.n net.arcs
  pub light : AreLight net.arcs
  pub added_ends : IsGraph net.n net.added

-- it is the network of n vertices and these arcs, each of which costs what is said
pub record IsNetworkOf (n : ℕ) (kind : Cost) (arcs : List ArcRec) (net : NetworkSeen) : Type 0 where
  pub vertices : net.n ≡ n
  pub kind_is : net.cost ≡ kind
  pub along : HaveSameArcs net.arcs (arcs_of kind arcs)

-- a network has the vertices of another, its arcs, and those that were added last
pub record GrowsTo (net grown : NetworkSeen) : Type 0 where
  pub vertices : grown.n ≡ net.n
  pub along : HaveSameArcs grown.arcs (net.arcs ++ grown.added)

-- these are the arcs of a network, each as often, and in the same order in each row
pub record HasArcs (arcs : List ArcRec) (net : NetworkSeen) : Type 0 where
  pub ends : IsGraph net.n arcs
  pub rows : HaveSameRows net.n net.arcs arcs
  pub count : length net.arcs ≡ length arcs

-- the seeds of a start among n vertices
abbrev pub seeds_at : ℕ → Start → List Seed
seeds_at n (start.At source) = seeds_from source
seeds_at n start.Everywhere = seeds_all n

-- a start is among n vertices
abbrev pub IsStartWithin : ℕ → Start → Type 0
IsStartWithin n (start.At source) = source < n
IsStartWithin n start.Everywhere = ⊤

-- some walk from the start to v costs c; from everywhere, the number of the vertex where it begins is counted in
abbrev pub HasWalk : NetworkSeen → Start → ℕ → ℕ → Type 0
HasWalk net from v c = IsAttained net.arcs (seeds_at net.n from) v c
