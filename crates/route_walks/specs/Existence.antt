-- Labels that are least exist.
use Rattle.std.specs.Prelude.{ℕ, List}
use Rattle.route_walks.specs.declared.graph.ArcRec.{ArcRec}
use Rattle.route_walks.specs.declared.graph.Seed.{Seed}
use Rattle.route_walks.specs.Walk.{IsGraph, AreSeeds}
use Rattle.route_walks.specs.Label.{AreLeastLabels}

-- each of n vertices has a least label, whatever the arcs and the seeds among them are
abbrev pub LeastLabelsExist : Type 0
LeastLabelsExist =
    (n : ℕ) (arcs : List ArcRec) (seeds : List Seed)
    → IsGraph n arcs
    → AreSeeds n seeds
    → (labels : List ℕ) × AreLeastLabels n arcs seeds labels
