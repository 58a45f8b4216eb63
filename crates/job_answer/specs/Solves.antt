-- What a solve works out, and what the labels of pairs are.
use Rattle.std.specs.Prelude.{◌≡◌, ◌≢◌, ℕ, ◌+◌, ◌<◌, ◌≤◌, min, true, List, [], ◌++◌, length}
use Rattle.std.specs.Prelude.{Option, Some, None, slice_index, ⊤}
use Rattle.obim_engine.specs.Goal.{IsServedBy}
use Rattle.obim_engine.specs.declared.goal.Goal.{Goal}
use Rattle.least_costs.specs.Below.{BelowSeen}
use Rattle.least_costs.specs.Pairs.{ArePairCosts, pair_at}
use Rattle.least_costs.specs.Network.{NetworkSeen, seeds_at}
use Rattle.answer_lines.specs.Lines.{grown_text}
use Rattle.route_walks.specs.declared.graph.ArcRec.{ArcRec}
use Rattle.route_walks.specs.declared.graph.TheConstants.{INF}
use Rattle.route_walks.specs.Limit.{AreLeastLabelsUpTo}
use Rattle.obim_engine.specs.declared.goal.Goal.TheVariants as goal
use Rattle.least_costs.specs.declared.start.Start.{Start}
use Rattle.least_costs.specs.declared.start.Start.TheVariants as start
use Rattle.job_answer.specs.declared.solving.solves.Solve.{Solve}
use Rattle.job_answer.specs.declared.question.graphs.GrownNetwork.{GrownNetwork}
use Rattle.job_answer.specs.declared.output.walked_pairs.Walked.{Walked}
use Rattle.job_answer.specs.declared.question.asked.Lines.{Lines}
use Rattle.job_answer.specs.declared.question.asked.Lines.TheVariants as lines
use Rattle.job_answer.specs.AnswerText.{Growth, IsComponentsBlock, IsGrownText, IsPairBlock, pair_walk_text}
use Rattle.job_answer.specs.Choices.{IsLinesAsked}
use Rattle.job_answer.specs.LineWalks.{HasWalkAt}
use Rattle.job_answer.specs.Within.{IsLinesBlock}

-- the costs are those of a network from a start, least in it up to their limit, which serves a goal
pub record AreCostsFor (net : NetworkSeen) (from : Start) (goal : Goal) (costs : BelowSeen) : Type 0 where
  pub net_is : costs.net ≡ net
  pub start_is : costs.start ≡ from
  pub least : AreLeastLabelsUpTo costs.limit net.n net.arcs (seeds_at net.n from) costs.labels
  pub served : IsServedBy goal costs.labels costs.limit

-- the block of the labels from a start
abbrev pub IsStartBlock : Lines → Start → ℕ → List ArcRec → List ℕ → Type 0
IsStartBlock lines (start.At source) n arcs text = IsLinesBlock lines n arcs source text
IsStartBlock lines start.Everywhere n arcs text = IsComponentsBlock n arcs text

-- the labels that a block needs: all, or those within a bound
abbrev pub goal_of : Lines → Goal
goal_of (lines.Each walks) = goal.EachVertex
goal_of (lines.Within walks bound) = goal.Within bound
goal_of (lines.Raw pairs) = goal.EachVertex
goal_of lines.Totals = goal.EachVertex

-- lines that may be asked for from a start: from everywhere a line of each vertex
abbrev pub IsStartLines : Start → Lines → Type 0
IsStartLines (start.At source) lines = IsLinesAsked lines
IsStartLines start.Everywhere (lines.Each walks) = ⊤
IsStartLines start.Everywhere (lines.Within walks bound) = ⊥
IsStartLines start.Everywhere (lines.Raw pairs) = ⊥
IsStartLines start.Everywhere lines.Totals = ⊥

-- the same in the graph and after it grows
abbrev pub IsGrownStart : Lines → ℕ → List ArcRec → Option Growth → Start → List ℕ → Type 0
IsGrownStart lines n arcs growth start text = IsGrownText (λ along. IsStartBlock lines start n along) arcs growth text

-- what comes after a block where the graph grows: how many arcs are added, and another block
pub record IsRest (count : ℕ) (IsText : List ℕ → Type 0) (text : List ℕ) : Type 0 where
  pub block : List ℕ
  pub is_block : IsText block
  pub written : text ≡ grown_text count ++ block

-- a text, and where the graph grows how many arcs are added and a second text
abbrev pub with_growth : Option Growth → List ℕ → List ℕ → List ℕ
with_growth None before after = before
with_growth (Some growth) before after = before ++ grown_text growth.count ++ after

-- the solve is for some of the queries, each of which begins with its source
pub record IsForQueries (queries : List (ℕ × ℕ)) (solve : Solve) : Type 0 where
  pub some : solve.first < solve.end
  pub within : solve.end ≤ length queries
  pub alike : (k : ℕ) → solve.first ≤ k → k < solve.end → solve.start ≡ start.At (pair_at queries k).0

-- the query after those of a solve, if there is one, has another source
abbrev pub EndsWithSource : List (ℕ × ℕ) → Solve → Type 0
EndsWithSource queries solve = solve.end < length queries → solve.start ≢ start.At (pair_at queries solve.end).0

-- the targets of a solve's queries, in order
pub record AreTargetsOf (queries : List (ℕ × ℕ)) (first end : ℕ) (targets : List ℕ) : Type 0 where
  pub count : first + length targets ≡ end
  pub each : (k : ℕ) → k < length targets → slice_index targets k ≡ (pair_at queries (first + k)).1

-- each pair has its cost in the grown network, if there is one
abbrev pub AreCostsAfter : Option GrownNetwork → List (ℕ × ℕ) → List (Option ℕ) → Type 0
AreCostsAfter None pairs costs = ⊤
AreCostsAfter (Some grown) pairs costs = ArePairCosts grown.network pairs costs

-- in the grown network, if there is one, there is a cost at a place
abbrev pub HasCostAfter : Option GrownNetwork → ℕ → List (Option ℕ) → Type 0
HasCostAfter None place costs = ⊤
HasCostAfter (Some grown) place costs = place < length costs

-- the lines of a pair by walks from its source
abbrev pub walked_text : ℕ × ℕ → Walked → List ℕ
walked_text pair walked =
    pair_walk_text pair walked.labels.items (slice_index walked.walks.hops.items) (slice_index walked.walks.parents.items)

-- the walks, as they were worked out along these arcs, tell the lines of a pair
pub record IsWalked (n : ℕ) (arcs : List ArcRec) (pair : ℕ × ℕ) (walked : Walked) : Type 0 where
  pub lines : IsPairBlock true n arcs pair (walked_text pair walked)
  pub count : length walked.labels.items ≡ n
  pub target : HasWalkAt pair.1 (slice_index walked.labels.items pair.1) walked.walks

-- they do for each target from a source whose label is below the limit, or if the limit is INF
abbrev pub AreWalkedBelow : ℕ → ℕ → List ArcRec → ℕ → Walked → Type 0
AreWalkedBelow limit n arcs source walked =
    (t : ℕ) → t < n → min (slice_index walked.labels.items t + 1) INF ≤ limit → IsWalked n arcs (source, t) walked

-- the same of a pair in the grown graph, if there is one
abbrev pub IsWalkedAfter : Option GrownNetwork → ℕ × ℕ → Option Walked → Type 0
IsWalkedAfter None pair after = ⊤
IsWalkedAfter (Some grown) pair None = ⊥
IsWalkedAfter (Some grown) pair (Some walked) = IsWalked grown.network.n grown.network.arcs pair walked

-- something is so of each query from the place `first` up to the one before `end`
abbrev pub AreEachTold : (ℕ × ℕ → Type 0) → List (ℕ × ℕ) → ℕ → ℕ → Type 0
AreEachTold IsTold queries first end = (k : ℕ) → first ≤ k → k < end → IsTold (pair_at queries k)

-- the lines of a pair by walks in the grown graph, or nothing where it does not grow
abbrev pub walked_after_text : ℕ × ℕ → Option Walked → List ℕ
walked_after_text pair None = []
walked_after_text pair (Some walked) = walked_text pair walked
