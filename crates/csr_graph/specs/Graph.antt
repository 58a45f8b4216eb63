-- A directed graph as a number of vertices and a list of arcs, and its rows (as in Saad, Iterative Methods for Sparse
-- Linear Systems, 3.4, with arcs for entries).
use Rattle.std.specs.Prelude.{◌≡◌, ℕ, ◌+◌, ◌<◌, ◌≤◌, ◌==◌, nat_lt, List, length}
use Rattle.std.specs.Prelude.{map, filter, count_by, slice_get, Some, AllPairs}
use Rattle.route_walks.specs.declared.graph.ArcRec.{ArcRec}
use Rattle.route_walks.specs.declared.graph.TheConstants.{MAX_ARCS, MAX_VERTICES}
use Rattle.route_walks.specs.Walk.{IsGraph}
use Rattle.csr_graph.specs.declared.target.Target.{Target}

-- the vertices are the numbers below n
pub record Graph : Type 0 where
  pub n : ℕ
  pub arcs : List ArcRec

-- the arcs that leave u, in their order
abbrev pub row_of : List ArcRec → ℕ → List ArcRec
row_of arcs u = filter (λ arc. arc.tail == u) arcs

-- what an arc leads to
abbrev pub target_of : ArcRec → Target
target_of arc = record { head = arc.head; weight = arc.weight }

-- the arc from a vertex to a target
abbrev pub arc_to : ℕ → Target → ArcRec
arc_to tail target = record { tail = tail; head = target.head; weight = target.weight }

-- what the arcs that leave u lead to, in their order
abbrev pub targets_of : List ArcRec → ℕ → List Target
targets_of arcs u = map target_of (row_of arcs u)

-- where u's row begins if arcs are by rising tail: how many arcs leave lower vertices
abbrev pub first_place : List ArcRec → ℕ → ℕ
first_place arcs u = count_by (λ arc. nat_lt arc.tail u) arcs

-- where u's row ends: how many arcs leave u or lower vertices
abbrev pub end_place : List ArcRec → ℕ → ℕ
end_place arcs u = first_place arcs (u + 1)

-- two lists have the same row at each of n vertices
abbrev pub HaveSameRows : ℕ → List ArcRec → List ArcRec → Type 0
HaveSameRows n xs ys = (u : ℕ) → u < n → row_of xs u ≡ row_of ys u

-- no arc has a lower tail than one before it
abbrev pub AreByTail : List ArcRec → Type 0
AreByTail arcs = AllPairs (λ earlier later. earlier.tail ≤ later.tail) arcs

-- an arc turned round
abbrev pub turned_arc : ArcRec → ArcRec
turned_arc arc = record { tail = arc.head; head = arc.tail; weight = arc.weight }

-- each arc turned round, in the same order
abbrev pub turned : List ArcRec → List ArcRec
turned arcs = map turned_arc arcs

-- a graph in rows: the arcs' ends are vertices, arcs are by rising tail, and both counts are within their limits
pub record IsInRows (graph : Graph) : Type 0 where
  pub ends : IsGraph graph.n graph.arcs
  pub by_tail : AreByTail graph.arcs
  pub vertices : graph.n ≤ MAX_VERTICES
  pub places : length graph.arcs ≤ MAX_ARCS

-- the arcs of a graph in rows that leave u are those from the first place of u to its end
abbrev pub RowsAreRuns : Type 0
RowsAreRuns =
    (graph : Graph) → IsInRows graph
    → (k : ℕ) (arc : ArcRec) → slice_get graph.arcs k ≡ Some arc
    → (first_place graph.arcs arc.tail ≤ k)
    × (k < end_place graph.arcs arc.tail)

-- and no other arc stands there
abbrev pub RunsAreRows : Type 0
RunsAreRows =
    (graph : Graph) → IsInRows graph
    → (u k : ℕ) (arc : ArcRec) → slice_get graph.arcs k ≡ Some arc
    → first_place graph.arcs u ≤ k
    → k < end_place graph.arcs u
    → arc.tail ≡ u

-- arcs by rising tail are determined by their rows
abbrev pub RowsDetermine : Type 0
RowsDetermine =
    (one other : Graph) → IsInRows one → IsInRows other
    → one.n ≡ other.n
    → HaveSameRows one.n one.arcs other.arcs
    → one ≡ other
