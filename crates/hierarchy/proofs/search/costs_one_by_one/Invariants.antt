use Rattle.std.proofs.Common.{◌≡◌, take}
use Rattle.route_walks.specs.Operators.{seeds_from}
use Rattle.near_labels.specs.Noted.{AreLeastOf}
use Rattle.hierarchy.proofs.search.costs_one_by_one.Given as goal

abbrev pub invariant-loop-target : goal.invariant-loop-target
invariant-loop-target l = record {
  forward : l.forward ≡ l.fn.forward;
  backward : l.backward ≡ l.fn.backward;
  found : AreLeastOf l.hierarchy.graph.arcs (seeds_from l.source) (take l.target-index l.targets) l.costs.items;
}
