-- Hops and parents exist.
use Rattle.std.specs.Prelude.{ℕ, ◌<◌, ◌≤◌, List}
use Rattle.route_walks.specs.declared.graph.ArcRec.{ArcRec}
use Rattle.route_walks.specs.declared.graph.TheConstants.{MAX_VERTICES}
use Rattle.route_walks.specs.Walk.{IsGraph}
use Rattle.route_walks.specs.Label.{AreLeastLabels}
use Rattle.route_walks.specs.Operators.{seeds_from}
use Rattle.walk_report.specs.Hop.{AreHops}
use Rattle.walk_report.specs.Parent.{AreParents}

-- with the least labels from a source each vertex has a hop and a parent
abbrev pub HopsAndParentsExist : Type 0
HopsAndParentsExist =
    (n : ℕ) (arcs : List ArcRec) (s : ℕ) (labels : List ℕ)
    → n ≤ MAX_VERTICES
    → IsGraph n arcs
    → s < n
    → AreLeastLabels n arcs (seeds_from s) labels
    → (hops : List ℕ) × (parents : List ℕ) × AreHops n arcs s labels hops × AreParents n arcs labels hops parents
