-- Hops by a search along tight arcs, whatever the labels are off the way to the targets.
use Rattle.std.specs.Prelude.{◌≡◌, ℕ, ◌+◌, ◌<◌, ◌≤◌, List, Contains, length, slice_index}
use Rattle.route_walks.specs.declared.graph.ArcRec.{ArcRec}
use Rattle.route_walks.specs.declared.graph.TheConstants.{INF}
use Rattle.route_walks.specs.Walk.{IsGraph}
use Rattle.route_walks.specs.Label.{AreLeastLabels}
use Rattle.route_walks.specs.Limit.{AreLeastToward}
use Rattle.route_walks.specs.Operators.{seeds_from}
use Rattle.walk_report.specs.declared.hop.TheConstants.{NONE}
use Rattle.walk_report.specs.Hop.{HasWalk, AreHops}
use Rattle.walk_report.specs.Parent.{AreParents, Leads}
use Rattle.walk_report.specs.Printed.{TellTheSame}
use Rattle.walk_report.specs.Search.{IsTightBelow, IsReached}

-- a hop is less than the number of vertices, and some vertex leads to each whose hop is not 0. No promise to callers
pub record AreLedHops (n : ℕ) (arcs : List ArcRec) (label : ℕ → ℕ) (hops : List ℕ) : Type 0 where
  pub count : length hops ≡ n
  pub few : (v : ℕ) → v < n → slice_index hops v < NONE → slice_index hops v < n
  pub leads : (v : ℕ) → v < n → 0 < slice_index hops v → slice_index hops v < NONE
      → (u : ℕ) × Leads arcs label (slice_index hops) u v

-- hops by breadth-first search from s along arcs that are tight below a limit. Labels may be any: a hop is that of a walk
-- of the label's cost
pub record AreTightHops (limit n : ℕ) (arcs : List ArcRec) (s : ℕ) (label : ℕ → ℕ) (hops : List ℕ) : Type 0 where
  pub led : AreLedHops n arcs label hops
  pub fits : (v : ℕ) → v < n → slice_index hops v ≤ NONE
  pub source : 0 < limit → slice_index hops s ≡ 0
  pub low : (v : ℕ) → v < n → slice_index hops v < NONE → label v < limit
  pub walk : (v : ℕ) → v < n → slice_index hops v < NONE → HasWalk arcs s v (label v) (slice_index hops v)
  pub reached : (arc : ArcRec) → Contains arcs arc → IsTightBelow limit label arc → slice_index hops arc.tail < NONE
      → IsReached (slice_index hops) (slice_index hops arc.tail + 1) arc.head

-- labels that are least up to a limit on the way to t tell of t, if it is below the limit, what the least labels tell: by
-- hops along tight arcs, and the least tails that lead on by these
abbrev pub WalksTowardAgree : Type 0
WalksTowardAgree =
    (limit n : ℕ) (arcs : List ArcRec) (s t : ℕ) (labels hops parents labels' hops' parents' : List ℕ)
    → limit ≤ INF
    → IsGraph n arcs
    → AreLeastLabels n arcs (seeds_from s) labels
    → AreHops n arcs s labels hops
    → AreParents n arcs labels hops parents
    → s < n → t < n
    → AreLeastToward limit n arcs (seeds_from s) t (slice_index labels')
    → AreTightHops limit n arcs s (slice_index labels') hops'
    → AreParents n arcs labels' hops' parents'
    → slice_index labels' t < limit
    → TellTheSame labels' hops' parents' labels hops parents t
