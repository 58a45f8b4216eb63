-- A sweep: the least costs of two walks that meet, from one vertex to each of a list. It goes along the list, in which each
-- vertex leads to earlier ones alone, and lowers the labels that a search over ups left.
use Rattle.std.specs.Prelude.{ℕ, ◌≡◌, ◌≢◌, ◌+◌, ◌<◌, ◌≤◌, ◌⊎◌, List, Contains, length, slice_index}
use Rattle.route_walks.specs.declared.graph.ArcRec.{ArcRec}
use Rattle.route_walks.specs.declared.graph.TheConstants.{INF}
use Rattle.csr_graph.specs.declared.target.Target.{Target}
use Rattle.near_labels.specs.UpDown.{HasWalk, HasUpDown, IsLeastUpDown}

-- an arc that leaves a vertex of the list leads to an earlier one
abbrev pub IsUpward : List ArcRec → List ℕ → Type 0
IsUpward arcs order =
    (k : ℕ) → k < length order → (arc : ArcRec) → Contains arcs arc → arc.tail ≡ slice_index order k
    → (j : ℕ) × (j < k) × (slice_index order j ≡ arc.head)

-- of each of these vertices, in their order, the least cost of two walks that meet, one from u
pub record AreLeastUpDowns (ups downs : List ArcRec) (u : ℕ) (vertices costs : List ℕ) : Type 0 where
  pub count : length costs ≡ length vertices
  pub least : (k : ℕ) → k < length vertices
      → IsLeastUpDown ups downs u (slice_index vertices k) (slice_index costs k)

-- d is what some target of a row is offered backwards: its label and the weight
pub record IsOffered (row : List Target) (label : ℕ → ℕ) (d : ℕ) : Type 0 where
  pub target : Target
  pub within : Contains row target
  pub sum : label target.head + target.weight ≡ d

-- the label of v is what the arcs that leave it allow at least, and the others are as they were
pub record IsLoweredAlong (downs : List ArcRec) (v : ℕ) (old new : List ℕ) : Type 0 where
  pub others : (u : ℕ) → u ≢ v → slice_index new u ≡ slice_index old u
  pub falls : slice_index new v ≤ slice_index old v
  pub low : (arc : ArcRec) → Contains downs arc → arc.tail ≡ v
      → slice_index new v ≤ slice_index old arc.head + arc.weight
  pub met : (slice_index new v ≡ slice_index old v)
      ⊎ ((arc : ArcRec) × Contains downs arc × (arc.tail ≡ v)
      × (slice_index old arc.head + arc.weight ≡ slice_index new v))

-- a label below INF is the cost of two walks that meet, and none is above that of a walk over ups
pub record IsSweeping (ups downs : List ArcRec) (u n : ℕ) (label : ℕ → ℕ) : Type 0 where
  pub capped : (v : ℕ) → v < n → label v ≤ INF
  pub met : (v : ℕ) → v < n → label v < INF → HasUpDown ups downs u v (label v)
  pub low : (v : ℕ) → v < n → (c : ℕ) → HasWalk ups u v c → label v ≤ c

-- the first vertices of a list have the least costs for labels
abbrev pub AreSwept : List ArcRec → List ArcRec → ℕ → List ℕ → ℕ → (ℕ → ℕ) → Type 0
AreSwept ups downs u order count label =
    (k : ℕ) → k < count → (c : ℕ) → HasUpDown ups downs u (slice_index order k) c → label (slice_index order k) ≤ c
