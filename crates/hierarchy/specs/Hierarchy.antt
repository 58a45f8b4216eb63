-- Contraction hierarchies (as in Geisberger, Sanders, Schultes and Delling, 2008): the vertices of a graph have places, and
-- two other graphs have arcs to higher places. Walks up from both ends meet there at the cost of a least walk.
use Rattle.std.specs.Prelude.{◌≡◌, ℕ, ◌<◌, List, All, length, slice_index}
use Rattle.route_walks.specs.declared.graph.ArcRec.{ArcRec}
use Rattle.route_walks.specs.Walk.{IsWalk, cost}
use Rattle.route_walks.specs.Label.{IsLeast}
use Rattle.route_walks.specs.Operators.{seeds_from}
use Rattle.csr_graph.specs.Graph.{Graph}
use Rattle.near_labels.specs.UpDown.{HasWalk, HasUpDown, IsLeastUpDown}

-- ups and downs tell what walks over arcs cost. An arc of ups costs no less than a walk between the vertices of its places,
-- and one of downs no less than a walk back. For each walk there are two that meet above, and cost no more
pub record IsHierarchy (vertex place : ℕ → ℕ) (arcs ups downs : List ArcRec) : Type 0 where
  pub sound_up : All (λ arc. HasWalk arcs (vertex arc.tail) (vertex arc.head) arc.weight) ups
  pub sound_down : All (λ arc. HasWalk arcs (vertex arc.head) (vertex arc.tail) arc.weight) downs
  pub complete : (u v : ℕ) (walk : List ArcRec) → IsWalk arcs u walk v
      → HasUpDown ups downs (place u) (place v) (cost walk)

-- each of n vertices has one of n places to itself
abbrev pub ArePlaced : ℕ → (ℕ → ℕ) → (ℕ → ℕ) → Type 0
ArePlaced n vertex place = (v : ℕ) → v < n → (place v < n) × (vertex (place v) ≡ v)

-- two graphs of the places of a graph's vertices tell its costs
pub record IsHierarchyOf (graph : Graph) (places : List ℕ) (up down : Graph) : Type 0 where
  pub vertices : List ℕ
  pub count : length places ≡ graph.n
  pub count_up : up.n ≡ graph.n
  pub count_down : down.n ≡ graph.n
  pub placed : ArePlaced graph.n (slice_index vertices) (slice_index places)
  pub exact : IsHierarchy (slice_index vertices) (slice_index places) graph.arcs up.arcs down.arcs

-- what two walks that meet above cost at least is the least cost
abbrev pub HierarchiesAreExact : Type 0
HierarchiesAreExact =
    (vertex place : ℕ → ℕ) (arcs ups downs : List ArcRec) (source target d : ℕ)
    → IsHierarchy vertex place arcs ups downs
    → vertex (place source) ≡ source
    → vertex (place target) ≡ target
    → IsLeastUpDown ups downs (place source) (place target) d
    → IsLeast arcs (seeds_from source) target d

-- a hierarchy as contracts see it
pub record HierarchySeen : Type 0 where
  pub graph : Graph
  pub places : List ℕ
  pub up : Graph
  pub down : Graph
