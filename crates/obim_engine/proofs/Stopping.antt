-- What a run that may stop early gives: least labels, or a pause in which no vertex is marked whose label is below a
-- limit that serves the goal.
use Rattle.std.proofs.Common.{ℕ, ◌≤◌, List, arith}
use Rattle.std.specs.Prelude.{⊤, All, slice_index}
use Rattle.std.specs.declared.vec.Vec.{Vec}
use Rattle.std.specs.declared.alloc.Global.{Global}
use Rattle.route_walks.specs.declared.graph.Seed.{Seed}
use Rattle.route_walks.specs.declared.graph.TheConstants.{INF}
use Rattle.route_walks.specs.Label.{AreCapped, AreLeastLabels}
use Rattle.route_walks.specs.Limit.{AreLeastLabelsUpTo}
use Rattle.route_walks.proofs.Facts.{least_up_to_is_least, least_is_least_up_to, within_is_exact}
use Rattle.csr_graph.specs.Graph.{Graph, IsInRows}
use Rattle.label_words.specs.Paused.{Rest, IsPause}
use Rattle.label_words.specs.declared.closed.Closed.TheVariants.{Settled, Paused}
use Rattle.label_words.proofs.Facts.{far_pauses_are_least, pauses_are_least_up_to}
use Rattle.obim_engine.specs.declared.goal.Goal.{Goal}
use Rattle.obim_engine.specs.declared.goal.Goal.TheVariants as goal
use Rattle.obim_engine.specs.Goal.{HasNoneLeft, IsGoalWithin, IsNear, IsServedBy, HasWanted, Stops}
use Rattle.obim_engine.specs.Goal.{limit_for_all, limit_past, targets_of}

-- what is wanted, if bounds tell it
abbrev IsTold : Goal → Graph → List Seed → List ℕ → Type 0
IsTold goal.EachVertex graph seeds labels = ⊤
IsTold (goal.Targets targets) graph seeds labels = ⊤
IsTold (goal.WalksTo targets) graph seeds labels = ⊤
IsTold (goal.Within bound) graph seeds labels = ⊤
IsTold (goal.Toward bounds) graph seeds labels = HasWanted (goal.Toward bounds) graph seeds labels

-- labels that are least up to a limit that serves the goal are all that it wants, and what bounds tell
has_wanted : (wanted : Goal) (graph : Graph) (seeds : List Seed) (labels : List ℕ) (limit : ℕ)
    → IsGoalWithin graph.n wanted
    → AreLeastLabelsUpTo limit graph.n graph.arcs seeds labels
    → IsServedBy wanted labels limit
    → IsTold wanted graph seeds labels
    → HasWanted wanted graph seeds labels
has_wanted goal.EachVertex graph seeds labels limit within up served told =
    λ v below.
    least_up_to_is_least limit graph.arcs seeds v _ (up.least v below)
    (omega (arith, (up.least v below).capped, served))
has_wanted (goal.Targets targets) graph seeds labels limit within up served told =
    λ k d lt. least_up_to_is_least limit graph.arcs seeds _ _ (up.least _ (within k d lt)) (served k d lt)
has_wanted (goal.WalksTo targets) graph seeds labels limit within up served told =
    λ k d lt.
    let here = up.least _ (within k d lt) in
    least_up_to_is_least limit graph.arcs seeds _ _ here (omega (arith, here.capped, served k d lt))
has_wanted (goal.Within bound) graph seeds labels limit within up served told =
    λ v below. within_is_exact limit bound graph.arcs seeds v _ (up.least v below) served
has_wanted (goal.Toward bounds) graph seeds labels limit within up served told = told

-- least labels need no bounds
told_by_least : (wanted : Goal) (graph : Graph) (seeds : List Seed) (labels : List ℕ) → IsGoalWithin graph.n wanted
    → AreLeastLabels graph.n graph.arcs seeds labels
    → IsTold wanted graph seeds labels
told_by_least goal.EachVertex graph seeds labels within least = tt
told_by_least (goal.Targets targets) graph seeds labels within least = tt
told_by_least (goal.WalksTo targets) graph seeds labels within least = tt
told_by_least (goal.Within bound) graph seeds labels within least = tt
told_by_least (goal.Toward bounds) graph seeds labels within least = λ are k d lt. least.least _ (within k d lt)

-- a pause whose marked vertices are past the limit has the least labels of the targets
told_by_pause : (wanted : Goal) (graph : Graph) (seeds : List Seed) (rest : Rest) (limit : ℕ) → IsInRows graph
    → IsGoalWithin graph.n wanted
    → IsPause graph seeds rest
    → HasNoneLeft wanted limit rest
    → IsNear wanted rest.labels limit
    → IsTold wanted graph seeds rest.labels
told_by_pause goal.EachVertex graph seeds rest limit rows within pause none near = tt
told_by_pause (goal.Targets targets) graph seeds rest limit rows within pause none near = tt
told_by_pause (goal.WalksTo targets) graph seeds rest limit rows within pause none near = tt
told_by_pause (goal.Within bound) graph seeds rest limit rows within pause none near = tt
told_by_pause (goal.Toward bounds) graph seeds rest limit rows within pause none near =
    λ are. far_pauses_are_least limit graph seeds bounds.now rest rows pause are none within near

-- the labels of a pause are least up to what is told of all
up_by_pause : (wanted : Goal) (graph : Graph) (seeds : List Seed) (rest : Rest) (limit : ℕ) → IsInRows graph
    → IsPause graph seeds rest
    → HasNoneLeft wanted limit rest
    → AreLeastLabelsUpTo (limit_for_all wanted limit) graph.n graph.arcs seeds rest.labels
up_by_pause goal.EachVertex graph seeds rest limit rows pause none =
    pauses_are_least_up_to limit graph seeds rest rows pause none
up_by_pause (goal.Targets targets) graph seeds rest limit rows pause none =
    pauses_are_least_up_to limit graph seeds rest rows pause none
up_by_pause (goal.WalksTo targets) graph seeds rest limit rows pause none =
    pauses_are_least_up_to limit graph seeds rest rows pause none
up_by_pause (goal.Within bound) graph seeds rest limit rows pause none =
    pauses_are_least_up_to limit graph seeds rest rows pause none
up_by_pause (goal.Toward bounds) graph seeds rest limit rows pause none =
    pauses_are_least_up_to 0 graph seeds rest rows pause (λ v below marked. omega arith)

-- the limit past the greatest label of the vertices that are named serves
pub past_serves : (wanted : Goal) (labels : List ℕ) (farthest : ℕ)
    → All (λ t. slice_index labels t ≤ farthest) (targets_of wanted)
    → IsServedBy wanted labels (limit_for_all wanted (limit_past wanted farthest))
past_serves goal.EachVertex labels farthest near = omega arith
past_serves (goal.Targets targets) labels farthest near = near
past_serves (goal.WalksTo targets) labels farthest near = λ k d lt. omega (arith, near k d lt)
past_serves (goal.Within bound) labels farthest near = omega arith
past_serves (goal.Toward bounds) labels farthest near = tt

-- and is near
pub past_is_near : (wanted : Goal) (labels : List ℕ) (farthest : ℕ)
    → All (λ t. slice_index labels t ≤ farthest) (targets_of wanted)
    → IsNear wanted labels (limit_past wanted farthest)
past_is_near goal.EachVertex labels farthest near = tt
past_is_near (goal.Targets targets) labels farthest near = tt
past_is_near (goal.WalksTo targets) labels farthest near = tt
past_is_near (goal.Within bound) labels farthest near = tt
past_is_near (goal.Toward bounds) labels farthest near = near

-- INF serves each goal
inf_serves : (wanted : Goal) (n : ℕ) (labels : List ℕ) → IsGoalWithin n wanted → AreCapped n (slice_index labels)
    → IsServedBy wanted labels INF
inf_serves goal.EachVertex n labels within capped = omega arith
inf_serves (goal.Targets targets) n labels within capped = λ k d lt. capped _ (within k d lt)
inf_serves (goal.WalksTo targets) n labels within capped = λ k d lt. omega arith
inf_serves (goal.Within bound) n labels within capped = omega arith
inf_serves (goal.Toward bounds) n labels within capped = tt

-- least labels
pub settled_stops : (wanted : Goal) (graph : Graph) (labels : Vec ℕ Global) → IsGoalWithin graph.n wanted
    → Stops wanted graph record { closed = Settled labels; limit = INF }
settled_stops wanted graph labels within seeds least =
    let up : AreLeastLabelsUpTo INF graph.n graph.arcs seeds labels.items =
    record {
      count = least.count;
      least = λ v below. least_is_least_up_to INF graph.arcs seeds v _ (least.least v below);
    } in
    let served = inf_serves wanted graph.n labels.items within (λ v below. (least.least v below).capped) in
    record {
      end = least;
      labels = up;
      limit = served;
      wanted = has_wanted wanted graph seeds labels.items INF within up served
          (told_by_least wanted graph seeds labels.items within least);
    }

-- a pause
pub paused_stops : (wanted : Goal) (graph : Graph) (rest : Rest) (limit : ℕ) → IsInRows graph
    → IsGoalWithin graph.n wanted → HasNoneLeft wanted limit rest
    → IsServedBy wanted rest.labels (limit_for_all wanted limit) → IsNear wanted rest.labels limit
    → Stops wanted graph record { closed = Paused rest; limit = limit_for_all wanted limit }
paused_stops wanted graph rest limit rows within none served near seeds pause =
    let up = up_by_pause wanted graph seeds rest limit rows pause none in
    record {
      end = pause;
      labels = up;
      limit = served;
      wanted =
          has_wanted wanted graph seeds rest.labels (limit_for_all wanted limit) within up served
          (told_by_pause wanted graph seeds rest limit rows within pause none near);
    }
