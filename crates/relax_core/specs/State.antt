-- A core as plain data, when it is lawful, and how it opens.
use Rattle.std.specs.Prelude.{◌≡◌, ℕ, ◌<◌, ◌≤◌, Bool, true, false, List, [], ◌∷◌}
use Rattle.std.specs.Prelude.{length, slice_index, slice_index_or, All, Any}
use Rattle.route_walks.specs.declared.graph.Seed.{Seed}
use Rattle.route_walks.specs.declared.graph.TheConstants.{INF}
use Rattle.csr_graph.specs.Graph.{Graph, IsInRows}
use Rattle.relax_core.specs.declared.views.View.{View}
use Rattle.relax_core.specs.declared.views.TheConstants.{SHARES}
use Rattle.relax_core.specs.Views.{idle_view}
use Rattle.relax_core.specs.Lawful.{Covers, Account, marks_below}

-- labels and marks by vertex, the pending total, and the views by seat
pub record State : Type 0 where
  pub labels : List ℕ
  pub marks : List Bool
  pub total : ℕ
  pub views : List View

-- whether a vertex is marked
abbrev pub mark_of : List Bool → ℕ → Bool
mark_of marks u = slice_index_or marks u false

-- a state is lawful: each vertex has a label and a mark, every arc is covered, and the total is the account
pub record IsLawful (graph : Graph) (seeds : List Seed) (state : State) : Type 0 where
  pub rows : IsInRows graph
  pub labels : length state.labels ≡ graph.n
  pub marks : length state.marks ≡ graph.n
  pub covers : Covers graph seeds (slice_index state.labels) (mark_of state.marks) state.views
  pub account : Account graph.n (mark_of state.marks) state.total state.views

-- a state belongs to a graph where it is lawful, with some seeds
abbrev pub IsOf : Graph → State → Type 0
IsOf graph state = (seeds : List Seed) × IsLawful graph seeds state

-- labels and marks from which a run begins: each seeded vertex has its least start and a mark, each other INF and no
-- mark
pub record IsStarted (labels : List ℕ) (marks : List Bool) (seeds : List Seed) : Type 0 where
  pub least : All (λ seed. slice_index labels seed.vertex ≤ seed.start) seeds
  pub starts : (u : ℕ) → u < length labels → mark_of marks u ≡ true
      → Any (λ seed. (seed.vertex ≡ u) × (seed.start ≡ slice_index labels u)) seeds
  pub seeded : All (λ seed. mark_of marks seed.vertex ≡ true) seeds
  pub others : (u : ℕ) → u < length labels → mark_of marks u ≡ false → slice_index labels u ≡ INF
  pub capped : (u : ℕ) → u < length labels → slice_index labels u ≤ INF

-- the opening of a graph and seeds: such labels and marks, the number of marks as total, and one idle view with all
-- shares
pub record IsOpening (graph : Graph) (seeds : List Seed) (state : State) : Type 0 where
  pub labels : length state.labels ≡ graph.n
  pub marks : length state.marks ≡ graph.n
  pub started : IsStarted state.labels state.marks seeds
  pub total : state.total ≡ marks_below (mark_of state.marks) graph.n
  pub views : state.views ≡ idle_view SHARES ∷ []
