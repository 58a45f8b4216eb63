-- What is left of a run that is paused.
use Rattle.std.specs.Prelude.{◌≡◌, ℕ, ◌<◌, ◌≤◌, ◌⊎◌, Bool, true, List, length, slice_index, slice_get, Some, All}
use Rattle.route_walks.specs.declared.graph.ArcRec.{ArcRec}
use Rattle.route_walks.specs.declared.graph.Seed.{Seed}
use Rattle.route_walks.specs.Label.{IsMet, IsRelaxed, IsSound, AreCapped}
use Rattle.route_walks.specs.Limit.{IsPast}
use Rattle.csr_graph.specs.Graph.{Graph}
use Rattle.csr_graph.specs.Bounds.{ArePast}
use Rattle.csr_graph.specs.declared.bounds.Bounds.{Bounds}
use Rattle.relax_core.specs.State.{mark_of}

-- labels and marks by vertex, as a run leaves them
pub record Rest : Type 0 where
  pub labels : List ℕ
  pub marks : List Bool

-- a run over the graph can go on: each vertex has a label and a mark, and each arc is relaxed or its
-- tail is marked
pub record CanGoOn (graph : Graph) (rest : Rest) : Type 0 where
  pub labels : length rest.labels ≡ graph.n
  pub marks : length rest.marks ≡ graph.n
  pub waits : (k : ℕ) (arc : ArcRec) → slice_get graph.arcs k ≡ Some arc
      → IsRelaxed (slice_index rest.labels) arc ⊎ (mark_of rest.marks arc.tail ≡ true)

-- a pause of a graph and seeds: a run can go on from it, no label is above INF, labels are sound, and
-- seeds are met
pub record IsPause (graph : Graph) (seeds : List Seed) (rest : Rest) : Type 0 where
  pub going : CanGoOn graph rest
  pub capped : AreCapped graph.n (slice_index rest.labels)
  pub sound : IsSound graph.n graph.arcs seeds (slice_index rest.labels)
  pub met : All (IsMet (slice_index rest.labels)) seeds

-- no vertex with a label below the limit is marked
abbrev pub AreUnmarkedBelow : ℕ → Rest → Type 0
AreUnmarkedBelow limit rest =
    (v : ℕ) → v < length rest.marks → mark_of rest.marks v ≡ true → limit ≤ slice_index rest.labels v

-- from the label of each marked vertex each walk to t costs at least the limit
abbrev pub AreMarkedPast : ℕ → Graph → ℕ → Rest → Type 0
AreMarkedPast limit graph t rest =
    (v : ℕ) → v < graph.n → mark_of rest.marks v ≡ true → IsPast limit graph.arcs t v (slice_index rest.labels v)

-- each marked vertex is so far from the targets of bounds that each walk there costs at least the limit, if they are bounds
-- of the graph
abbrev pub AreMarkedFar : ℕ → Bounds → Rest → Type 0
AreMarkedFar limit bounds rest =
    (v : ℕ) → v < length rest.marks → mark_of rest.marks v ≡ true → ArePast limit bounds v (slice_index rest.labels v)

-- some vertex with a label below the limit is marked
pub record IsMarkedBelow (limit : ℕ) (rest : Rest) : Type 0 where
  pub vertex : ℕ
  pub within : vertex < length rest.marks
  pub marked : mark_of rest.marks vertex ≡ true
  pub below : slice_index rest.labels vertex < limit
