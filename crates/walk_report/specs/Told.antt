-- The walks to some vertices, as far as labels that are least up to a limit tell them.
use Rattle.std.specs.Prelude.{◌≡◌, ℕ, ◌+◌, ◌<◌, ◌≤◌, ◌==◌, if◌then◌else◌, min, List, [], All, length, map}
use Rattle.std.specs.Prelude.{slice_index, slice_index_or}
use Rattle.std.specs.declared.vec.Vec.{Vec}
use Rattle.std.specs.declared.alloc.Global.{Global}
use Rattle.route_walks.specs.declared.graph.ArcRec.{ArcRec}
use Rattle.route_walks.specs.declared.graph.TheConstants.{INF}
use Rattle.route_walks.specs.Label.{AreLeastLabels}
use Rattle.route_walks.specs.Operators.{seeds_from}
use Rattle.walk_report.specs.declared.hop.TheConstants.{NONE}
use Rattle.walk_report.specs.Hop.{AreHops}
use Rattle.walk_report.specs.Parent.{AreParents}
use Rattle.walk_report.specs.Printed.{printed_walk}

-- the walk to v by hops and parents: its printed walk, or no vertices where it has no hop
abbrev pub walk_by : List ℕ → List ℕ → ℕ → List ℕ
walk_by hops parents v =
    if slice_index hops v == NONE then [] else printed_walk (slice_index parents) (slice_index hops v) v

-- by labels, hops and parents d is the label of v, and if it is below INF these are the vertices of its printed walk
pub record IsToldBy (labels hops parents : List ℕ) (v d : ℕ) (vertices : List ℕ) : Type 0 where
  pub label : slice_index labels v ≡ d
  pub walk : d < INF → vertices ≡ printed_walk (slice_index parents) (slice_index hops v) v

-- label and walk are what arcs and source tell of v: its least label, and the vertices of its printed walk, or none
pub record IsWalkOf (n : ℕ) (arcs : List ArcRec) (source v label : ℕ) (walk : List ℕ) : Type 0 where
  pub told : (labels hops parents : List ℕ)
      → AreLeastLabels n arcs (seeds_from source) labels
      → AreHops n arcs source labels hops
      → AreParents n arcs labels hops parents
      → IsToldBy labels hops parents v label walk
  pub within : All (λ u. u < n) walk
  pub some : label < INF → 0 < length walk
  pub none : label ≡ INF → walk ≡ []

-- the vertices that each vector holds
abbrev pub walks_in : List (Vec ℕ Global) → List (List ℕ)
walks_in vectors = map (λ vector. vector.items) vectors

-- the walks to the targets, in order, if the label is below the limit or the limit is INF; the others have no vertices
pub record AreWalksTo (limit n : ℕ) (arcs : List ArcRec) (source : ℕ) (labels targets : List ℕ)
    (walks : List (Vec ℕ Global)) : Type 0 where
  pub count : length walks ≡ length targets
  pub each : (k : ℕ) → k < length targets → min (slice_index labels (slice_index targets k) + 1) INF ≤ limit
      → IsWalkOf n arcs source (slice_index targets k) (slice_index labels (slice_index targets k))
      (slice_index_or (walks_in walks) k [])
  pub past : (k : ℕ) → k < length targets → limit ≤ slice_index labels (slice_index targets k)
      → slice_index_or (walks_in walks) k [] ≡ []
