use Rattle.std.proofs.Common.{◌≡◌, drop, take}
use Rattle.least_costs.specs.Taken.{AreFor}
use Rattle.cost_examples.specs.Spares.{AreNearest}
use Rattle.cost_examples.proofs.spare.nearest_two.Given as goal

abbrev pub invariant-loop-depot : goal.invariant-loop-depot
invariant-loop-depot g l = record {
  net : l.each.net ≡ l.network;
  left : l.each.left ≡ drop l.depot-index l.depots;
  found : AreFor (λ v choice. AreNearest l.network v (take l.depot-index l.depots) choice) l.customers l.found.items;
}
