-- What is checked of a hierarchy, arc by arc.
use Rattle.std.specs.Prelude.{◌≡◌, ℕ, ◌+◌, ◌<◌, ◌≤◌, ◌⊎◌, List, All, Contains}
use Rattle.route_walks.specs.declared.graph.ArcRec.{ArcRec}
use Rattle.csr_graph.specs.Graph.{Graph}
use Rattle.csr_graph.specs.declared.target.Target.{Target}
use Rattle.near_labels.specs.UpDown.{HasUpDown}
use Rattle.hierarchy.specs.Hierarchy.{IsHierarchy}

-- a row has a target with this head, and a weight of at most this
pub record HasTarget (row : List Target) (head most : ℕ) : Type 0 where
  pub target : Target
  pub within : Contains row target
  pub enters : target.head ≡ head
  pub cheap : target.weight ≤ most

-- an arc from u to v costs at most this
pub record HasArc (arcs : List ArcRec) (u v most : ℕ) : Type 0 where
  pub arc : ArcRec
  pub within : Contains arcs arc
  pub leaves : arc.tail ≡ u
  pub enters : arc.head ≡ v
  pub cheap : arc.weight ≤ most

-- two arcs, of downs to u and of ups to v, leave the same place and cost at most this together
pub record IsOver (ups downs : List ArcRec) (u v most : ℕ) : Type 0 where
  pub from : ArcRec
  pub onto : ArcRec
  pub falls : Contains downs from
  pub rises : Contains ups onto
  pub meets : onto.tail ≡ from.tail
  pub leaves : from.head ≡ u
  pub enters : onto.head ≡ v
  pub cheap : from.weight + onto.weight ≤ most

-- from place u to v an arc of the graph costs no more, or two arcs over a lower place
abbrev pub IsMade : (ℕ → ℕ) → List ArcRec → List ArcRec → List ArcRec → ℕ → ℕ → ℕ → Type 0
IsMade vertex arcs ups downs u v most = HasArc arcs (vertex u) (vertex v) most ⊎ IsOver ups downs u v most

-- an arc leads to a higher one of n places
abbrev pub DoesRise : ℕ → ArcRec → Type 0
DoesRise n arc = (arc.tail < arc.head) × (arc.head < n)

-- both graphs have the places for which there is room
pub record HaveRoom (room : ℕ) (up down : Graph) : Type 0 where
  pub up_room : up.n ≡ room
  pub down_room : down.n ≡ room

-- from u two walks that meet above lead to each target, at no more than its weight and what is added
abbrev pub AreMet : List ArcRec → List ArcRec → ℕ → ℕ → List Target → Type 0
AreMet ups downs u add row = All (λ target. HasUpDown ups downs u target.head (add + target.weight)) row

-- no way over an arc of downs and one of ups that leave the same place is cheaper than one above
abbrev pub AreBridged : List ArcRec → List ArcRec → Type 0
AreBridged ups downs =
    (from onto : ArcRec) → Contains downs from → Contains ups onto → onto.tail ≡ from.tail
    → HasUpDown ups downs from.head onto.head (from.weight + onto.weight)

-- no arc of the graph is cheaper than two walks that meet above
abbrev pub AreKept : (ℕ → ℕ) → List ArcRec → List ArcRec → List ArcRec → Type 0
AreKept place arcs ups downs = All (λ arc. HasUpDown ups downs (place arc.tail) (place arc.head) arc.weight) arcs

-- arcs to higher places, each made of others; no arc of the graph and no way over a lower place is cheaper than one above
pub record IsChecked (n : ℕ) (vertex place : ℕ → ℕ) (arcs ups downs : List ArcRec) : Type 0 where
  pub rises_up : All (DoesRise n) ups
  pub rises_down : All (DoesRise n) downs
  pub made_up : All (λ arc. IsMade vertex arcs ups downs arc.tail arc.head arc.weight) ups
  pub made_down : All (λ arc. IsMade vertex arcs ups downs arc.head arc.tail arc.weight) downs
  pub kept : AreKept place arcs ups downs
  pub bridged : AreBridged ups downs

-- such arcs are a hierarchy
abbrev pub CheckedIsHierarchy : Type 0
CheckedIsHierarchy =
    (n : ℕ) (vertex place : ℕ → ℕ) (arcs ups downs : List ArcRec)
    → IsChecked n vertex place arcs ups downs
    → IsHierarchy vertex place arcs ups downs
