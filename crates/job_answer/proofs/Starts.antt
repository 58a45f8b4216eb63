-- The labels of components are numbers of vertices, and costs that serve each vertex are least.
use Rattle.std.proofs.Common.{◌≡◌, ℕ, ◌<◌, ◌^◌, List, arith, slice_index}
use Rattle.std.specs.List.{All}
use Rattle.std.proofs.lemmas.List.Elements.{All-from_get_or}
use Rattle.route_walks.proofs.Facts.{attained-start, least_up_to_is_least, seed-within}
use Rattle.route_walks.specs.declared.graph.ArcRec.{ArcRec}
use Rattle.route_walks.specs.declared.graph.TheConstants.{INF}
use Rattle.route_walks.specs.Label.{AreLeastLabels}
use Rattle.route_walks.specs.Operators.{seed_at, seeds_all}
use Rattle.obim_engine.specs.declared.goal.Goal.TheVariants.{EachVertex}
use Rattle.least_costs.specs.Below.{BelowSeen}
use Rattle.least_costs.specs.Network.{NetworkSeen, seeds_at}
use Rattle.least_costs.specs.declared.start.Start.{Start}
use Rattle.job_answer.specs.Solves.{AreCostsFor}

-- where each vertex is a seed that starts at its number, each label is below INF
pub labels-finite : (n : ℕ) (arcs : List ArcRec) (labels : List ℕ)
    → n < 2 ^ 32 → AreLeastLabels n arcs (seeds_all n) labels
    → All (λ label. label < INF) labels
labels-finite n arcs labels few found =
    All-from_get_or (λ label. label < INF) labels 0
    (λ v below.
    let inside : v < n = omega (arith, below, found.count) in
    let low = (found.least v inside).least v (attained-start arcs (seeds_all n) (seed_at v) (seed-within n v inside)) in
    omega (arith, low, inside, few))

-- costs of a network from a start that are least in it
pub record AreLeastCosts (net : NetworkSeen) (from : Start) (costs : BelowSeen) : Type 0 where
  pub net_is : costs.net ≡ net
  pub start_is : costs.start ≡ from
  pub least : AreLeastLabels net.n net.arcs (seeds_at net.n from) costs.labels

-- no label is above a limit that serves each vertex
pub whole-costs : (net : NetworkSeen) (from : Start) (costs : BelowSeen) → AreCostsFor net from EachVertex costs
    → AreLeastCosts net from costs
whole-costs net from costs are = record {
  net_is = are.net_is;
  start_is = are.start_is;
  least = record {
    count = are.least.count;
    least = λ v below.
        let here = are.least.least v below in
        least_up_to_is_least costs.limit net.arcs (seeds_at net.n from) v (slice_index costs.labels v) here
        (omega (arith, here.capped, are.served));
  };
}
