-- Bounds: what walks between two vertices cost at least, and labels that tell it.
use Rattle.std.specs.Prelude.{ℕ, ◌+◌, ◌-◌, ◌^◌, ◌<◌, ◌≤◌, nat_lt, if◌then◌else◌, List, All}
use Rattle.route_walks.specs.declared.graph.ArcRec.{ArcRec}
use Rattle.route_walks.specs.declared.graph.TheConstants.{INF, MAX_VERTICES}
use Rattle.route_walks.specs.Walk.{IsGraph, IsWalk, cost}
use Rattle.route_walks.specs.Label.{IsRelaxed, offer}
use Rattle.route_walks.specs.Limit.{IsPast}

-- b is a bound from v to t: no walk costs less
abbrev pub IsBound : List ArcRec → ℕ → ℕ → ℕ → Type 0
IsBound arcs v t b = (walk : List ArcRec) → IsWalk arcs v walk t → b ≤ cost walk

-- what a walk costs at least from a vertex whose label is near to one whose label is at least far; INF where far is INF
-- and near is what a walk may cost, since then no walk leads there
abbrev pub gap : ℕ → ℕ → ℕ
gap far near = if nat_lt far INF then far - near else (if nat_lt (2 ^ 60) near then far - near else INF)

-- an arc is relaxed backwards: its tail has no higher label than it offers from its head
abbrev pub IsRelaxedBackward : (ℕ → ℕ) → ArcRec → Type 0
IsRelaxedBackward label arc = label arc.tail ≤ offer (label arc.head) arc.weight

-- a label that makes the limit with a bound is past it
abbrev pub BoundsArePast : Type 0
BoundsArePast =
    (limit : ℕ) (arcs : List ArcRec) (t v d b : ℕ)
    → IsBound arcs v t b
    → limit ≤ d + b
    → IsPast limit arcs t v d

-- labels along which all arcs are relaxed, from whichever seeds, are bounds between any two vertices: the label of the
-- second less that of the first; none at all where the first has one that a walk may cost and the second has INF
abbrev pub RelaxedLabelsAreBounds : Type 0
RelaxedLabelsAreBounds =
    (n : ℕ) (arcs : List ArcRec) (label : ℕ → ℕ)
    → n ≤ MAX_VERTICES
    → IsGraph n arcs
    → All (λ arc. arc.weight < 2 ^ 32) arcs
    → All (IsRelaxed label) arcs
    → (v t far : ℕ) → v < n
    → far ≤ label t
    → IsBound arcs v t (gap far (label v))

-- so are labels along which all arcs are relaxed backwards, the label of the first less that of the second
abbrev pub BackwardLabelsAreBounds : Type 0
BackwardLabelsAreBounds =
    (n : ℕ) (arcs : List ArcRec) (label : ℕ → ℕ)
    → n ≤ MAX_VERTICES
    → IsGraph n arcs
    → All (λ arc. arc.weight < 2 ^ 32) arcs
    → All (IsRelaxedBackward label) arcs
    → (v t near : ℕ) → v < n
    → label t ≤ near
    → IsBound arcs v t (gap (label v) near)
