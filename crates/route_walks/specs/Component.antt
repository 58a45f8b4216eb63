-- Weak components: vertices that arcs join, whichever way each arc points.
use Rattle.std.specs.Prelude.{◌≡◌, ℕ, ◌<◌, ◌≤◌, ◌^◌, ◌⊎◌, List, [], ◌∷◌, Contains}
use Rattle.route_walks.specs.declared.graph.ArcRec.{ArcRec}
use Rattle.route_walks.specs.Walk.{IsGraph}
use Rattle.route_walks.specs.Label.{AreLeast}
use Rattle.route_walks.specs.Operators.{seeds_all, both_ways}

-- a path joins u and v: arcs of the graph, each taken in either direction; the empty path stays
abbrev pub IsPath : List ArcRec → ℕ → List ArcRec → ℕ → Type 0
IsPath arcs u [] v = u ≡ v
IsPath arcs u (arc ∷ path) v =
    Contains arcs arc
    × (((arc.tail ≡ u) × IsPath arcs arc.head path v)
    ⊎ ((arc.head ≡ u) × IsPath arcs arc.tail path v))

-- some path joins u and v
abbrev pub AreConnected : List ArcRec → ℕ → ℕ → Type 0
AreConnected arcs u v = (path : List ArcRec) × IsPath arcs u path v

-- c is the component label of v: the least number connected with v
pub record IsComponentLabel (arcs : List ArcRec) (v c : ℕ) : Type 0 where
  pub connected : AreConnected arcs c v
  pub least : (u : ℕ) → AreConnected arcs u v → c ≤ u

-- the least labels from all vertices, along the arcs both ways and free, are the component labels
abbrev pub LeastLabelsAreComponents : Type 0
LeastLabelsAreComponents =
    (n : ℕ) (arcs : List ArcRec) (label : ℕ → ℕ)
    → IsGraph n arcs
    → n < 2 ^ 32
    → AreLeast n (both_ways arcs) (seeds_all n) label
    → (v : ℕ) → v < n → IsComponentLabel arcs v (label v)
