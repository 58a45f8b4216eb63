-- Labels from a source, labels towards a target over the reversed arcs, and the sum of the two where they meet.
use Rattle.std.specs.Prelude.{◌≡◌, ℕ, ◌+◌, ◌<◌, ◌≤◌, List, All, true, length, min, slice_index}
use Rattle.route_walks.specs.declared.graph.ArcRec.{ArcRec}
use Rattle.route_walks.specs.declared.graph.TheConstants.{INF}
use Rattle.route_walks.specs.Walk.{HaveSameArcs}
use Rattle.route_walks.specs.Label.{IsLeast}
use Rattle.route_walks.specs.Operators.{seeds_from}
use Rattle.csr_graph.specs.Graph.{Graph, IsInRows, turned}
use Rattle.relax_core.specs.State.{mark_of}
use Rattle.near_labels.specs.declared.both_ways.BothWays.{BothWays}
use Rattle.route_walks.specs.Limit.{IsPast}
use Rattle.label_words.specs.Paused.{Rest, IsPause, AreUnmarkedBelow}

-- reversed is the graph with each arc reversed
pub record IsReversed (graph reversed : Graph) : Type 0 where
  pub vertices : reversed.n ≡ graph.n
  pub arcs : HaveSameArcs reversed.arcs (turned graph.arcs)

-- each arc weighs at least so much
abbrev pub AreAtLeast : ℕ → List ArcRec → Type 0
AreAtLeast least arcs = All (λ arc. least ≤ arc.weight) arcs

-- the second graph is the first with each arc reversed, and no arc weighs less than the least weight
pub record AreBothWays (ways : BothWays) : Type 0 where
  pub turned : IsReversed ways.csr.now ways.reversed.now
  pub least : AreAtLeast ways.least_weight ways.reversed.now.arcs

-- cost is the least sum of the two labels of a vertex, or INF where none is below it
pub record IsLeastMeeting (n : ℕ) (forward backward : ℕ → ℕ) (cost : ℕ) : Type 0 where
  pub capped : cost ≤ INF
  pub low : (v : ℕ) → v < n → cost ≤ forward v + backward v
  pub met : cost < INF → (v : ℕ) × (v < n) × (forward v + backward v ≡ cost)

-- the least sum of two pauses where they meet, one from the source and one towards the target, is the least label of the
-- target, if what still waits on both sides has no lower sum with an arc between them
abbrev pub MeetingIsLeast : Type 0
MeetingIsLeast =
    (graph reversed : Graph) (source target low high least cost : ℕ) (forward backward : Rest)
    → IsInRows graph → IsInRows reversed
    → IsReversed graph reversed
    → AreAtLeast least reversed.arcs
    → source < graph.n → target < graph.n
    → IsPause graph (seeds_from source) forward
    → IsPause reversed (seeds_from target) backward
    → AreUnmarkedBelow low forward
    → AreUnmarkedBelow high backward
    → IsLeastMeeting graph.n (slice_index forward.labels) (slice_index backward.labels) cost
    → cost ≤ low + high + least
    → IsLeast graph.arcs (seeds_from source) target cost

-- the label of each marked vertex and its label on the other side, which counts as low at most, make the limit
abbrev pub AreMarkedFarByLabels : ℕ → ℕ → List ℕ → Rest → Type 0
AreMarkedFarByLabels limit low other rest =
    (v : ℕ) → v < length rest.marks → mark_of rest.marks v ≡ true
    → limit ≤ slice_index rest.labels v + min (slice_index other v) low

-- labels tell of the way to a target: if a label of a vertex makes a limit with the vertex's label here, which counts as low
-- at most, then each walk on to the target makes the limit
abbrev pub IsToldOf : Graph → ℕ → List ℕ → ℕ → Type 0
IsToldOf graph target labels low =
    (limit v d : ℕ) → v < graph.n
    → limit ≤ d + min (slice_index labels v) low
    → IsPast limit graph.arcs target v d

-- the labels of a pause towards the target tell of the way there, with low up to the lowest label that is marked and the
-- weight of an arc
abbrev pub FarByLabelsIsPast : Type 0
FarByLabelsIsPast =
    (graph reversed : Graph) (target low least : ℕ) (backward : Rest)
    → IsInRows reversed
    → IsReversed graph reversed
    → AreAtLeast least reversed.arcs
    → IsPause reversed (seeds_from target) backward
    → AreUnmarkedBelow low backward
    → IsToldOf graph target backward.labels (low + least)
