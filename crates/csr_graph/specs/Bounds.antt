-- Bounds of what is left of the way to some targets, told by the cells of landmarks.
use Rattle.std.specs.Prelude.{ℕ, ◌+◌, ◌-◌, ◌*◌, ◌<◌, nat_lt, if◌then◌else◌, min, List, All, length, slice_index}
use Rattle.route_walks.specs.declared.graph.TheConstants.{INF}
use Rattle.route_walks.specs.Bounds.{IsBound}
use Rattle.route_walks.specs.Limit.{IsPast}
use Rattle.csr_graph.specs.Graph.{Graph}
use Rattle.csr_graph.specs.declared.bounds.Bounds.{Bounds}
use Rattle.csr_graph.specs.declared.bounds.TheConstants.{FINITE_CELLS}

-- what a walk costs at least along which cells differ by so many units: labels are rounded down, so that one unit may be
-- a difference of 1. It is INF where one of two cells is that of INF
abbrev pub bound_of : ℕ → ℕ → ℕ
bound_of unit units =
    if nat_lt units FINITE_CELLS then (if nat_lt 0 units then min ((units - 1) * unit + 1) INF else 0) else INF

-- b is a bound from v to each of some vertices
abbrev pub AreBoundsAt : Graph → List ℕ → ℕ → ℕ → Type 0
AreBoundsAt graph targets v b = All (λ t. IsBound graph.arcs v t b) targets

-- the cell of v for the landmark i
abbrev pub cell_of : Bounds → ℕ → ℕ → ℕ
cell_of bounds v i = slice_index bounds.cells.now (v * length bounds.low.now + i)

-- the cells of each landmark tell bounds in a graph: the targets' less that of a vertex, and that of a vertex less theirs
abbrev pub AreBounds : Graph → Bounds → Type 0
AreBounds graph bounds =
    (v i : ℕ) → v < graph.n → i < length bounds.low.now
    → v * length bounds.low.now + i < length bounds.cells.now
    → AreBoundsAt graph bounds.targets.now v (bound_of bounds.unit (slice_index bounds.low.now i - cell_of bounds v i))
    × AreBoundsAt graph bounds.targets.now v (bound_of bounds.unit (cell_of bounds v i - slice_index bounds.high.now i))

-- from a label of v each walk to a target costs at least the limit, in each graph of which these are bounds
abbrev pub ArePast : ℕ → Bounds → ℕ → ℕ → Type 0
ArePast limit bounds v label =
    (graph : Graph) → AreBounds graph bounds → v < graph.n
    → All (λ t. IsPast limit graph.arcs t v label) bounds.targets.now
