-- The printed walk of a vertex, and the law that it is a walk.
use Rattle.std.specs.Prelude.{◌≡◌, ℕ, zero, suc, ◌<◌, ◌≤◌, List, [], ◌∷◌, ◌++◌, map, length, slice_index}
use Rattle.route_walks.specs.declared.graph.ArcRec.{ArcRec}
use Rattle.route_walks.specs.declared.graph.TheConstants.{INF}
use Rattle.route_walks.specs.Walk.{IsGraph, IsWalk, cost}
use Rattle.route_walks.specs.Label.{AreLeastLabels}
use Rattle.route_walks.specs.Limit.{AreLeastLabelsUpTo}
use Rattle.route_walks.specs.Operators.{seeds_from}
use Rattle.walk_report.specs.Hop.{AreHops, AreHopsBelow}
use Rattle.walk_report.specs.Parent.{AreParents}

-- the printed walk of a vertex of hop h: that of its parent, and then the vertex
abbrev pub printed_walk : (ℕ → ℕ) → ℕ → ℕ → List ℕ
printed_walk parent zero v = v ∷ []
printed_walk parent (suc h) v = printed_walk parent h (parent v) ++ v ∷ []

-- some walk from s to v goes through these vertices in order, costs d and has h arcs
pub record GoesThrough (arcs : List ArcRec) (s v d h : ℕ) (vertices : List ℕ) : Type 0 where
  pub walk : List ArcRec
  pub walks : IsWalk arcs s walk v
  pub costs : cost walk ≡ d
  pub count : length walk ≡ h
  pub through : s ∷ map (λ arc. arc.head) walk ≡ vertices

-- the printed walk of a vertex whose label is below a limit is a walk that costs its label and has as many arcs as its hop
abbrev pub PrintedWalksAreWalks : Type 0
PrintedWalksAreWalks =
    (limit n : ℕ) (arcs : List ArcRec) (s : ℕ) (labels hops parents : List ℕ)
    → IsGraph n arcs
    → AreHopsBelow limit n arcs s labels hops
    → AreParents n arcs labels hops parents
    → (v : ℕ) → v < n → slice_index labels v < limit
    → GoesThrough arcs s v (slice_index labels v) (slice_index hops v)
    (printed_walk (slice_index parents) (slice_index hops v) v)

-- two lists of labels, with hops and parents, tell the same of a vertex: its label, its hop and its printed walk
pub record TellTheSame (labels hops parents labels' hops' parents' : List ℕ) (v : ℕ) : Type 0 where
  pub label : slice_index labels v ≡ slice_index labels' v
  pub hop : slice_index hops v ≡ slice_index hops' v
  pub walk : printed_walk (slice_index parents) (slice_index hops v) v
      ≡ printed_walk (slice_index parents') (slice_index hops' v) v

-- labels that are least up to a limit tell of each vertex below it what the least labels tell
abbrev pub WalksBelowAgree : Type 0
WalksBelowAgree =
    (limit n : ℕ) (arcs : List ArcRec) (s : ℕ) (labels hops parents labels' hops' parents' : List ℕ)
    → limit ≤ INF
    → IsGraph n arcs
    → AreLeastLabels n arcs (seeds_from s) labels
    → AreHops n arcs s labels hops
    → AreParents n arcs labels hops parents
    → AreLeastLabelsUpTo limit n arcs (seeds_from s) labels'
    → AreHopsBelow limit n arcs s labels' hops'
    → AreParents n arcs labels' hops' parents'
    → (v : ℕ) → v < n → slice_index labels' v < limit
    → TellTheSame labels' hops' parents' labels hops parents v
