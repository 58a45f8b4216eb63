use Rattle.std.proofs.Common.{◌≡◌, ℕ, ◌-◌, ◌<◌, ◌≤◌, List, length, slice_index}
use Rattle.csr_graph.specs.Graph.{Graph}
use Rattle.walk_report.specs.Search.{IsSearch}
use Rattle.walk_report.proofs.hop.search.Given as goal

-- a search from s below a limit, where the vertices before the place next are visited
pub record IsSearching (limit : ℕ) (graph : Graph) (label : ℕ → ℕ) (hops queue : List ℕ) (next s : ℕ) : Type 0 where
  pub search : IsSearch limit graph.n graph.arcs label hops queue next
  pub place : next ≤ length queue
  pub some : 0 < length queue
  pub source : slice_index queue 0 ≡ s

abbrev pub invariant-loop-next : goal.invariant-loop-next
invariant-loop-next l = IsSearching l.limit l.csr (slice_index l.labels) l.hops l.queue.items l.next l.s

abbrev pub decreases-loop-next : goal.decreases-loop-next
decreases-loop-next l = l.csr.n - l.next
