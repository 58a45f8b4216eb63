-- Parents: the vertex before a vertex, on a least walk of fewest arcs.
use Rattle.std.specs.Prelude.{◌≡◌, ℕ, ◌+◌, ◌<◌, ◌≤◌, ◌⊎◌, List, length, slice_index, Contains}
use Rattle.route_walks.specs.declared.graph.ArcRec.{ArcRec}
use Rattle.route_walks.specs.Walk.{HaveSameArcs}
use Rattle.route_walks.specs.Label.{AreLeastLabels}
use Rattle.route_walks.specs.Operators.{seeds_from}
use Rattle.walk_report.specs.declared.hop.TheConstants.{NONE}
use Rattle.walk_report.specs.Hop.{AreHops}

-- an arc leads to its head: the tail's label and the weight make the head's label, and the tail is one hop nearer
pub record IsLeading (label hop : ℕ → ℕ) (arc : ArcRec) : Type 0 where
  pub tight : label arc.tail + arc.weight ≡ label arc.head
  pub nearer : hop arc.tail + 1 ≡ hop arc.head

-- u leads to v: some arc from u to v does
pub record Leads (arcs : List ArcRec) (label hop : ℕ → ℕ) (u v : ℕ) : Type 0 where
  pub weight : ℕ
  pub within : Contains arcs (record { tail = u; head = v; weight = weight })
  pub leading : IsLeading label hop (record { tail = u; head = v; weight = weight })

-- u is the parent of v: the least vertex that leads to v
pub record IsParent (arcs : List ArcRec) (label hop : ℕ → ℕ) (v u : ℕ) : Type 0 where
  pub leads : Leads arcs label hop u v
  pub least : (other : ℕ) → Leads arcs label hop other v → u ≤ other

-- a list of the parents of n vertices, with NONE for the source and if no walk ends there
pub record AreParents (n : ℕ) (arcs : List ArcRec) (labels hops parents : List ℕ) : Type 0 where
  pub count : length parents ≡ n
  pub source : (v : ℕ) → v < n → slice_index hops v ≡ 0 → slice_index parents v ≡ NONE
  pub none : (v : ℕ) → v < n → slice_index hops v ≡ NONE → slice_index parents v ≡ NONE
  pub parent : (v : ℕ) → v < n → 0 < slice_index hops v → slice_index hops v < NONE
      → IsParent arcs (slice_index labels) (slice_index hops) v (slice_index parents v)

-- from each vertex that a walk reaches, parents lead back to hop 0: each is a vertex one hop nearer
pub record LeadBack (hops parents : List ℕ) : Type 0 where
  pub count : length parents ≡ length hops
  pub within : (v : ℕ) → v < length hops → 0 < slice_index hops v → slice_index hops v < NONE
      → slice_index parents v < length hops
  pub nearer : (v : ℕ) → v < length hops → 0 < slice_index hops v → slice_index hops v < NONE
      → slice_index hops (slice_index parents v) + 1 ≡ slice_index hops v

-- parents after one more tail: it is the new parent if it leads and the old one is higher. No promise to callers
pub record AreLedFrom (arcs : List ArcRec) (label hop : ℕ → ℕ) (tail : ℕ) (old new : List ℕ) : Type 0 where
  pub count : length new ≡ length old
  pub lower : (v : ℕ) → slice_index new v ≤ slice_index old v
  pub led : (v : ℕ) → (slice_index new v ≡ slice_index old v)
      ⊎ ((slice_index new v ≡ tail) × Leads arcs label hop tail v)
  pub reached : (v : ℕ) → Leads arcs label hop tail v → slice_index new v ≤ tail

-- lists with the same arcs have the same hops and the same parents
abbrev pub HopsAndParentsFollowTheArcs : Type 0
HopsAndParentsFollowTheArcs =
    (n : ℕ) (one other : List ArcRec) (s : ℕ) (labels hops parents : List ℕ)
    → HaveSameArcs one other
    → AreHops n one s labels hops
    → AreParents n one labels hops parents
    → AreHops n other s labels hops × AreParents n other labels hops parents

-- for given labels there is one list of hops, and one list of parents
abbrev pub HopsAndParentsAreUnique : Type 0
HopsAndParentsAreUnique =
    (n : ℕ) (arcs : List ArcRec) (s : ℕ) (labels hops hops' parents parents' : List ℕ)
    → AreLeastLabels n arcs (seeds_from s) labels
    → AreHops n arcs s labels hops
    → AreHops n arcs s labels hops'
    → AreParents n arcs labels hops parents
    → AreParents n arcs labels hops' parents'
    → (hops ≡ hops') × (parents ≡ parents')
