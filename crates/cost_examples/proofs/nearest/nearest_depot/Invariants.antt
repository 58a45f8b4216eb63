use Rattle.std.proofs.Common.{◌≡◌, drop, take}
use Rattle.cost_examples.specs.Callers.{IsNearest}
use Rattle.cost_examples.proofs.nearest.nearest_depot.Given as goal

abbrev pub invariant-loop-depot : goal.invariant-loop-depot
invariant-loop-depot g l = record {
  net : l.each.net ≡ l.network;
  left : l.each.left ≡ drop l.depot-index l.depots;
  best : IsNearest l.network l.v (take l.depot-index l.depots) l.best;
}
