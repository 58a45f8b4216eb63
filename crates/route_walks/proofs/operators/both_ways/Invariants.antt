use Rattle.std.proofs.Common.{◌≡◌, ℕ, ◌*◌, length, take}
use Rattle.route_walks.specs.Walk.{IsGraph}
use Rattle.route_walks.specs.Operators.{both_ways}
use Rattle.route_walks.proofs.operators.both_ways.Given as goal

abbrev pub invariant-loop-arc : goal.invariant-loop-arc
invariant-loop-arc l = record {
  exact : l.both.items ≡ both_ways (take l.arc-index l.arcs);
  count : length l.both.items ≡ 2 * l.arc-index;
  graph : (n : ℕ) → IsGraph n l.arcs → IsGraph n l.both.items;
}
