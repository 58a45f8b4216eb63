-- The costs from one source after another.
use Rattle.std.specs.Prelude.{ℕ, ◌<◌, ◌≤◌, List, All, length, slice_index}
use Rattle.least_costs.specs.Costs.{CostsSeen, IsFrom}
use Rattle.least_costs.specs.Network.{NetworkSeen}
use Rattle.least_costs.specs.TaskQueue.{AreFinished}
use Rattle.least_costs.specs.declared.each.Sources.{Sources}
use Rattle.least_costs.specs.declared.workers.task_queue.FinishedTask.{FinishedTask}

-- the network, and the sources whose costs were not handed over yet
pub record EachSeen : Type 0 where
  pub net : NetworkSeen
  pub left : List ℕ

-- these are vertices of the network
abbrev pub AreWithin : NetworkSeen → List ℕ → Type 0
AreWithin net sources = All (λ source. source < net.n) sources

-- the sources are vertices of the network
abbrev pub AreSources : Sources → Type 0
AreSources asked = AreWithin asked.network.now asked.sources.now

-- the costs are those from the source at a place
abbrev pub IsFromPlace : Sources → ℕ → CostsSeen → Type 0
IsFromPlace asked place costs = IsFrom asked.network.now (slice_index asked.sources.now place) costs

-- what is so between two calls
pub record IsTurn (asked : Sources) (next : ℕ) (made : List (FinishedTask CostsSeen)) : Type 0 where
  pub within : AreSources asked
  pub place : next ≤ length asked.sources.now
  pub are_made : AreFinished (IsFromPlace asked) made
