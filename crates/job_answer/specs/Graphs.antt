-- The networks in which the costs of an answer are least, before and after arcs are added.
use Rattle.std.specs.Prelude.{◌≡◌, ℕ, List, Option, Some, None, option_map, ⊤}
use Rattle.route_walks.specs.declared.graph.ArcRec.{ArcRec}
use Rattle.route_walks.specs.Walk.{HaveSameArcs}
use Rattle.least_costs.specs.declared.cost.Cost.{Cost}
use Rattle.least_costs.specs.declared.cost.Cost.TheVariants as cost
use Rattle.least_costs.specs.Network.{GrowsTo, IsNetwork, NetworkSeen}
use Rattle.job_answer.specs.declared.question.asked.Answer.{Answer}
use Rattle.job_answer.specs.declared.question.asked.Answer.TheVariants as answer
use Rattle.job_answer.specs.declared.question.graphs.Graphs.{Graphs}
use Rattle.job_answer.specs.declared.question.graphs.GrownNetwork.{GrownNetwork}
use Rattle.job_answer.specs.AnswerText.{Growth, arcs_for}

-- what an arc costs in the network of an answer kind
abbrev pub cost_for : Answer → Cost
cost_for answer.Distances = cost.Weight
cost_for answer.Levels = cost.One
cost_for answer.Components = cost.FreeBothWays

-- how the network grows
abbrev pub growth_of : Option GrownNetwork → Option Growth
growth_of grown = option_map (λ g. record { count = g.count; arcs = g.network.arcs }) grown

-- the second network is the first with the added arcs, if arcs are added
pub record HasGrown (net : NetworkSeen) (grown : GrownNetwork) : Type 0 where
  pub is : IsNetwork grown.network
  pub to : GrowsTo net grown.network

abbrev pub GrowsInto : NetworkSeen → Option GrownNetwork → Type 0
GrowsInto net None = ⊤
GrowsInto net (Some grown) = HasGrown net grown

-- a network, and the one that it grows to
pub record AreGraphs (graphs : Graphs) : Type 0 where
  pub is : IsNetwork graphs.network
  pub grows : GrowsInto graphs.network graphs.grown

-- two graphs grow alike: by as many arcs, and to the same arcs
abbrev pub GrowAlike : Option Growth → Option Growth → Type 0
GrowAlike None None = ⊤
GrowAlike None (Some other) = ⊥
GrowAlike (Some one) None = ⊥
GrowAlike (Some one) (Some other) = (one.count ≡ other.count) × HaveSameArcs one.arcs other.arcs

-- the networks are those of an answer kind for n vertices, these arcs and these added ones
pub record AreGraphsFor (kind : Answer) (n : ℕ) (arcs : List ArcRec) (growth : Option Growth) (graphs : Graphs)
    : Type 0 where
  pub are : AreGraphs graphs
  pub vertices : graphs.network.n ≡ n
  pub along : HaveSameArcs graphs.network.arcs (arcs_for kind arcs)
  pub alike : GrowAlike (growth_of graphs.grown) growth
