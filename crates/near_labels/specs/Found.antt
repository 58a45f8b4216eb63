-- The walks that a search finds.
use Rattle.std.specs.Prelude.{◌≡◌, ℕ, ◌<◌, List, [], length, slice_index, slice_index_or}
use Rattle.route_walks.specs.declared.graph.ArcRec.{ArcRec}
use Rattle.walk_report.specs.Told.{IsWalkOf, walks_in}
use Rattle.near_labels.specs.declared.walks.WalksFound.{WalksFound}

-- of each of these vertices, in their order, they are the least label and the walk from a source
pub record AreWalksFound (n : ℕ) (arcs : List ArcRec) (source : ℕ) (targets : List ℕ) (found : WalksFound) : Type 0 where
  pub labels : length found.labels.items ≡ length targets
  pub walks : length found.walks.items ≡ length targets
  pub each : (k : ℕ) → k < length targets
      → IsWalkOf n arcs source (slice_index targets k) (slice_index found.labels.items k)
      (slice_index_or (walks_in found.walks.items) k [])
