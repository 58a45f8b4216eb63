-- Least walks as contracts see them.
use Rattle.std.specs.Prelude.{◌≡◌, ℕ, ◌<◌, ◌≤◌, List, ◌∷◌, length, map}
use Rattle.route_walks.specs.declared.graph.ArcRec.{ArcRec}
use Rattle.route_walks.specs.Walk.{IsWalk, cost}
use Rattle.walk_report.specs.Hop.{AreHops}
use Rattle.walk_report.specs.Parent.{AreParents, LeadBack}
use Rattle.least_costs.specs.Costs.{AreLeastFrom}
use Rattle.least_costs.specs.Network.{IsNetwork, NetworkSeen}
use Rattle.least_costs.specs.declared.start.Start.TheVariants as start

-- the walks in a network from a source
pub record WalksSeen : Type 0 where
  pub net : NetworkSeen
  pub source : ℕ

-- The vertices are those of a walk from the source to v, in order. No walk there costs less, and none of the same cost
-- has fewer arcs.
pub record IsLeastWalk (net : NetworkSeen) (source v : ℕ) (vertices : List ℕ) : Type 0 where
  pub walk : List ArcRec
  pub walks : IsWalk net.arcs source walk v
  pub through : source ∷ map (λ arc. arc.head) walk ≡ vertices
  pub least : (other : List ArcRec) → IsWalk net.arcs source other v → cost walk ≤ cost other
  pub fewest : (other : List ArcRec) → IsWalk net.arcs source other v → cost other ≡ cost walk
      → length walk ≤ length other

-- what is so of all walks: hops and parents are those of the least labels from the source
pub record AreWalks (net : NetworkSeen) (source : ℕ) (hops parents : List ℕ) : Type 0 where
  pub network : IsNetwork net
  pub within : source < net.n
  pub labels : List ℕ
  pub least : AreLeastFrom net (start.At source) labels
  pub fewest : AreHops net.n net.arcs source labels hops
  pub before : AreParents net.n net.arcs labels hops parents
  pub back : LeadBack hops parents
