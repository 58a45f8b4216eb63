-- Landmarks as contracts see them: cells of vertices, whose differences tell what walks cost at least.
use Rattle.std.specs.Prelude.{◌≡◌, ℕ, ◌+◌, ◌-◌, ◌*◌, ◌<◌, ◌≤◌, ◌++◌, Bool, true, false, List, All, Contains, length, slice_index}
use Rattle.route_walks.specs.declared.graph.ArcRec.{ArcRec}
use Rattle.route_walks.specs.declared.graph.TheConstants.{INF, MAX_VERTICES}
use Rattle.route_walks.specs.Bounds.{IsBound}
use Rattle.route_walks.specs.Walk.{IsGraph}
use Rattle.csr_graph.specs.Bounds.{bound_of}
use Rattle.csr_graph.specs.declared.bounds.TheConstants.{FINITE_CELLS}
use Rattle.csr_graph.specs.Graph.{Graph}
use Rattle.least_costs.specs.Network.{AreLight}
use Rattle.least_costs.specs.declared.network.landmarks.TheConstants.{MAX_UNIT}

-- the cells of some landmarks in a graph, vertex by vertex, as many as there are landmarks
pub record LandmarksSeen : Type 0 where
  pub graph : Graph
  pub count : ℕ
  pub cells : List ℕ
  -- how many labels share a cell
  pub unit : ℕ
  -- if costs towards a landmark are those from it, as far as cells tell
  pub is_two_way : Bool
  -- arcs that cells count in, though the graph has them no more
  pub gone : List ArcRec

-- the arcs that cells count in
abbrev pub counted_in : LandmarksSeen → List ArcRec
counted_in seen = seen.graph.arcs ++ seen.gone

-- arcs are among others
abbrev pub AreAmong : List ArcRec → List ArcRec → Type 0
AreAmong others arcs = All (λ arc. Contains others arc) arcs

-- among some arcs is one between the ends of an arc that weighs no more
pub record HasCheaper (others : List ArcRec) (arc : ArcRec) : Type 0 where
  pub weight : ℕ
  pub within : Contains others (record { tail = arc.tail; head = arc.head; weight = weight })
  pub cheap : weight ≤ arc.weight

-- for each arc one of the others leads between its ends and weighs no more
abbrev pub AreCovered : List ArcRec → List ArcRec → Type 0
AreCovered arcs others = All (HasCheaper others) arcs

-- the cell of v for the landmark i
abbrev pub column : ℕ → List ℕ → ℕ → ℕ → ℕ
column count cells i v = slice_index cells (v * count + i)

-- a cell is that of a label: the label counted in units and rounded down, or the greatest number for INF
pub record IsCell (unit cell label : ℕ) : Type 0 where
  pub finite : cell < FINITE_CELLS → (cell * unit ≤ label) × (label < cell * unit + unit)
  pub none : FINITE_CELLS ≤ cell → (cell ≡ 65535) × (label ≡ INF)

-- what cells of a landmark differ by tells what walks from one of two vertices to the other cost at least
abbrev pub IsTold : Graph → ℕ → Bool → (ℕ → ℕ) → Type 0
IsTold graph unit is_two_way cell =
    (v t : ℕ) → v < graph.n → t < graph.n
    → IsBound graph.arcs v t (bound_of unit (cell t - cell v))
    × (is_two_way ≡ true → IsBound graph.arcs v t (bound_of unit (cell v - cell t)))

-- a graph within the limits, whose arcs have weights below 2^32
pub record IsLightGraph (graph : Graph) : Type 0 where
  pub few : graph.n ≤ MAX_VERTICES
  pub ends : IsGraph graph.n graph.arcs
  pub light : AreLight graph.arcs

-- what is so of all landmarks
pub record AreLandmarks (seen : LandmarksSeen) : Type 0 where
  pub light : IsLightGraph seen.graph
  pub unit : seen.unit ≤ MAX_UNIT
  pub room : length seen.cells ≡ seen.count * seen.graph.n
  pub fit : (i v : ℕ) → i < seen.count → v < seen.graph.n → column seen.count seen.cells i v ≤ 65535
  pub told : (i : ℕ) → i < seen.count
      → IsTold (record { n = seen.graph.n; arcs = counted_in seen }) seen.unit seen.is_two_way
      (column seen.count seen.cells i)

-- by landmark a cell that is at most those of some vertices
pub record AreLowest (seen : LandmarksSeen) (vertices low : List ℕ) : Type 0 where
  pub count : length low ≡ seen.count
  pub each : (i : ℕ) → i < seen.count
      → All (λ t. slice_index low i ≤ column seen.count seen.cells i t) vertices

-- by landmark a cell that is at least those of some vertices, and the greatest number if that tells nothing
pub record AreHighest (seen : LandmarksSeen) (vertices high : List ℕ) : Type 0 where
  pub count : length high ≡ seen.count
  pub each : (i : ℕ) → i < seen.count → seen.is_two_way ≡ true
      → All (λ t. column seen.count seen.cells i t ≤ slice_index high i) vertices
  pub none : (i : ℕ) → i < seen.count → seen.is_two_way ≡ false → slice_index high i ≡ 65535
