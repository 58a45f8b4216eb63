use Rattle.std.proofs.Common.{◌≡◌, ◌≢◌, ℕ, ◌+◌, ◌<◌, List, length, slice_index, take}
use Rattle.csr_graph.specs.Graph.{Graph}
use Rattle.walk_report.specs.declared.hop.TheConstants.{NONE}
use Rattle.walk_report.specs.Search.{IsTightBelow, IsSearch}
use Rattle.walk_report.proofs.Filling.{AreFilled}
use Rattle.walk_report.proofs.hop.visit.Given as goal

-- the search is at u, whose hop is one less than h
pub record IsVisiting (limit : ℕ) (graph : Graph) (label : ℕ → ℕ) (hops queue : List ℕ) (next u h s : ℕ) : Type 0 where
  pub search : IsSearch limit graph.n graph.arcs label hops queue next
  pub place : next < length queue
  pub vertex : slice_index queue next ≡ u
  pub hop : h ≡ slice_index hops (slice_index queue next) + 1
  pub source : slice_index queue 0 ≡ s

abbrev pub invariant-loop-head : goal.invariant-loop-head
invariant-loop-head l =
    let label = slice_index l.labels in
    IsVisiting l.limit l.csr label l.hops l.queue.items l.next l.u l.hop (slice_index l.fn.queue.items 0)
    × AreFilled (IsTightBelow l.limit label) (λ hop. hop ≢ NONE) l.hops l.u (take l.head-index l.row)
