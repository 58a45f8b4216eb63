use Rattle.std.proofs.Common.{◌≡◌, ℕ, ◌+◌, ◌<◌, List, ◌++◌, length, slice_index, drop}
use Rattle.walk_report.specs.Printed.{printed_walk}
use Rattle.walk_report.proofs.printed.walk_to.Given as goal

-- the walk is filled in from place k on, and a vertex of hop k stands there
pub record IsFilled (hops parents whole walk : List ℕ) (vertex k : ℕ) : Type 0 where
  pub below : vertex < length hops
  pub hop : slice_index hops vertex ≡ k
  pub place : k < length walk
  pub here : slice_index walk k ≡ vertex
  pub rest : printed_walk (slice_index parents) k vertex ++ drop (k + 1) walk ≡ whole

abbrev pub invariant-loop-k : goal.invariant-loop-k
invariant-loop-k l =
    IsFilled l.hops l.parents (printed_walk (slice_index l.parents) l.hop l.v) l.walk.items l.vertex l.k
