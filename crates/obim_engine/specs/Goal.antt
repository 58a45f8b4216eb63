-- Which labels are wanted of a run that may stop early, and what it gives.
use Rattle.std.specs.Prelude.{ℕ, ◌+◌, ◌<◌, ◌≤◌, ⊤, min, List, [], All, slice_index}
use Rattle.route_walks.specs.declared.graph.Seed.{Seed}
use Rattle.route_walks.specs.declared.graph.TheConstants.{INF}
use Rattle.route_walks.specs.Label.{IsLeast, AreLeast}
use Rattle.route_walks.specs.Limit.{AreLeastLabelsUpTo, IsExactWithin}
use Rattle.csr_graph.specs.Graph.{Graph}
use Rattle.csr_graph.specs.Bounds.{AreBounds}
use Rattle.label_words.specs.Closed.{IsEnd, closed_labels}
use Rattle.label_words.specs.Paused.{AreMarkedFar, AreUnmarkedBelow, Rest}
use Rattle.obim_engine.specs.declared.goal.Goal.{Goal}
use Rattle.obim_engine.specs.declared.goal.Goal.TheVariants as goal
use Rattle.obim_engine.specs.declared.goal.GoalResult.{GoalResult}

-- the vertices that a goal names
abbrev pub targets_of : Goal → List ℕ
targets_of goal.EachVertex = []
targets_of (goal.Targets targets) = targets.now
targets_of (goal.WalksTo targets) = targets.now
targets_of (goal.Within bound) = []
targets_of (goal.Toward bounds) = bounds.now.targets.now

-- they are among n vertices
abbrev pub IsGoalWithin : ℕ → Goal → Type 0
IsGoalWithin n wanted = All (λ t. t < n) (targets_of wanted)

-- the least limit that serves a goal, where this is the greatest label of the vertices that it names
abbrev pub limit_past : Goal → ℕ → ℕ
limit_past goal.EachVertex farthest = INF
limit_past (goal.Targets targets) farthest = farthest
limit_past (goal.WalksTo targets) farthest = min (farthest + 1) INF
limit_past (goal.Within bound) farthest = min (bound + 1) INF
limit_past (goal.Toward bounds) farthest = farthest

-- the limit up to which the labels of all vertices are least, if a run stopped at a limit: bounds tell nothing of vertices
-- that aren't wanted
abbrev pub limit_for_all : Goal → ℕ → ℕ
limit_for_all goal.EachVertex limit = limit
limit_for_all (goal.Targets targets) limit = limit
limit_for_all (goal.WalksTo targets) limit = limit
limit_for_all (goal.Within bound) limit = limit
limit_for_all (goal.Toward bounds) limit = 0

-- a limit serves a goal: labels that are least up to it are least wherever the goal wants them. For walks it
-- is above the label of each target that is reached
abbrev pub IsServedBy : Goal → List ℕ → ℕ → Type 0
IsServedBy goal.EachVertex labels limit = INF ≤ limit
IsServedBy (goal.Targets targets) labels limit = All (λ t. slice_index labels t ≤ limit) targets.now
IsServedBy (goal.WalksTo targets) labels limit = All (λ t. min (slice_index labels t + 1) INF ≤ limit) targets.now
IsServedBy (goal.Within bound) labels limit = min (bound + 1) INF ≤ limit
IsServedBy (goal.Toward bounds) labels limit = ⊤

-- a limit is at least the label of each target of bounds
abbrev pub IsNear : Goal → List ℕ → ℕ → Type 0
IsNear goal.EachVertex labels limit = ⊤
IsNear (goal.Targets targets) labels limit = ⊤
IsNear (goal.WalksTo targets) labels limit = ⊤
IsNear (goal.Within bound) labels limit = ⊤
IsNear (goal.Toward bounds) labels limit = All (λ t. slice_index labels t ≤ limit) bounds.now.targets.now

-- nothing that is wanted is left to do in a pause: no vertex with a label below the limit is marked, or by bounds each that
-- is marked is past it
abbrev pub HasNoneLeft : Goal → ℕ → Rest → Type 0
HasNoneLeft goal.EachVertex limit rest = AreUnmarkedBelow limit rest
HasNoneLeft (goal.Targets targets) limit rest = AreUnmarkedBelow limit rest
HasNoneLeft (goal.WalksTo targets) limit rest = AreUnmarkedBelow limit rest
HasNoneLeft (goal.Within bound) limit rest = AreUnmarkedBelow limit rest
HasNoneLeft (goal.Toward bounds) limit rest = AreMarkedFar limit bounds.now rest

-- the labels that a goal wants are least: all, those of the targets, or those within the bound, and no label
-- is within it but these. By bounds they are least if these are bounds of the graph
abbrev pub HasWanted : Goal → Graph → List Seed → List ℕ → Type 0
HasWanted goal.EachVertex graph seeds labels = AreLeast graph.n graph.arcs seeds (slice_index labels)
HasWanted (goal.Targets targets) graph seeds labels =
    All (λ t. IsLeast graph.arcs seeds t (slice_index labels t)) targets.now
HasWanted (goal.WalksTo targets) graph seeds labels =
    All (λ t. IsLeast graph.arcs seeds t (slice_index labels t)) targets.now
HasWanted (goal.Within bound) graph seeds labels =
    (v : ℕ) → v < graph.n → IsExactWithin bound graph.arcs seeds v (slice_index labels v)
HasWanted (goal.Toward bounds) graph seeds labels =
    AreBounds graph bounds.now → All (λ t. IsLeast graph.arcs seeds t (slice_index labels t)) bounds.now.targets.now

-- a run over a graph and seeds reached its goal: it ended with least labels or with a pause, its labels are
-- least up to the limit, this serves the goal, and so the labels that are wanted are least
pub record HasReached (goal : Goal) (graph : Graph) (seeds : List Seed) (reached : GoalResult) : Type 0 where
  pub end : IsEnd graph seeds reached.closed
  pub labels : AreLeastLabelsUpTo reached.limit graph.n graph.arcs seeds (closed_labels reached.closed)
  pub limit : IsServedBy goal (closed_labels reached.closed) reached.limit
  pub wanted : HasWanted goal graph seeds (closed_labels reached.closed)

-- whichever seeds it is the end of a run from, that run reached its goal
abbrev pub Stops : Goal → Graph → GoalResult → Type 0
Stops goal graph reached = (seeds : List Seed) → IsEnd graph seeds reached.closed → HasReached goal graph seeds reached

-- a run from these seeds came to an end, and whichever seeds it is the end of a run from, that run reached its goal
pub record HasStopped (wanted : Goal) (graph : Graph) (seeds : List Seed) (reached : GoalResult) : Type 0 where
  pub end : IsEnd graph seeds reached.closed
  pub stops : Stops wanted graph reached
