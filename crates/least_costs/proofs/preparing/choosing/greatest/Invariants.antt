use Rattle.std.proofs.Common.{◌<◌, ◌≤◌, take}
use Rattle.std.specs.Prelude.{All}
use Rattle.route_walks.specs.declared.graph.TheConstants.{INF}
use Rattle.least_costs.proofs.preparing.choosing.greatest.Given as goal

abbrev pub invariant-loop-label : goal.invariant-loop-label
invariant-loop-label l = All (λ label. label < INF → label ≤ l.most) (take l.label-index l.labels)
