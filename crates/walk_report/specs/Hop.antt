-- Hops: the fewest arcs of a least walk. Labels and hops are functions from the vertex if one is named, and lists if
-- they are kept.
use Rattle.std.specs.Prelude.{◌≡◌, ℕ, ◌<◌, ◌≤◌, List, length, slice_index}
use Rattle.route_walks.specs.declared.graph.ArcRec.{ArcRec}
use Rattle.route_walks.specs.declared.graph.TheConstants.{INF}
use Rattle.route_walks.specs.Walk.{IsWalk, cost}
use Rattle.route_walks.specs.Limit.{AreLeastLabelsUpTo}
use Rattle.route_walks.specs.Operators.{seeds_from}
use Rattle.walk_report.specs.declared.hop.TheConstants.{NONE}

-- some walk from s to v costs d and has h arcs
pub record HasWalk (arcs : List ArcRec) (s v d h : ℕ) : Type 0 where
  pub walk : List ArcRec
  pub walks : IsWalk arcs s walk v
  pub costs : cost walk ≡ d
  pub count : length walk ≡ h

-- h is the hop of v, whose least label is d: some walk from s to v of cost d has h arcs, and none has fewer
pub record IsHop (arcs : List ArcRec) (s v d h : ℕ) : Type 0 where
  pub walk : HasWalk arcs s v d h
  pub fewest : (walk : List ArcRec) → IsWalk arcs s walk v → cost walk ≡ d → h ≤ length walk

-- a list of the hops of those of n vertices whose label is below a limit, with NONE for the others
pub record AreHopsBelow (limit n : ℕ) (arcs : List ArcRec) (s : ℕ) (labels hops : List ℕ) : Type 0 where
  pub count : length hops ≡ n
  pub none : (v : ℕ) → v < n → limit ≤ slice_index labels v → slice_index hops v ≡ NONE
  pub below : (v : ℕ) → v < n → slice_index labels v < limit → slice_index hops v < NONE
  pub hop : (v : ℕ) → v < n → slice_index labels v < limit
      → IsHop arcs s v (slice_index labels v) (slice_index hops v)

-- a list of the hops of n vertices from s, with NONE where no walk ends
abbrev pub AreHops : ℕ → List ArcRec → ℕ → List ℕ → List ℕ → Type 0
AreHops n arcs s labels hops = AreHopsBelow INF n arcs s labels hops

-- labels and hops are those from one source, up to some limit
pub record AreFromOneSource (n : ℕ) (arcs : List ArcRec) (labels hops : List ℕ) : Type 0 where
  pub source : ℕ
  pub within : source < n
  pub limit : ℕ
  pub few : limit ≤ INF
  pub least : AreLeastLabelsUpTo limit n arcs (seeds_from source) labels
  pub exact : AreHopsBelow limit n arcs source labels hops
