use Rattle.std.proofs.Common.{◌≡◌, ◌+◌, ℕ, List, length}
use Rattle.least_costs.specs.Network.{NetworkSeen}
use Rattle.least_costs.specs.Pairs.{AreCostsAt, AreFilled}
use Rattle.least_costs.proofs.pairs.order.fill.Given as goal

abbrev pub invariant-loop-at : goal.invariant-loop-at
invariant-loop-at l = record {
  places : length l.filled ≡ length l.fn.filled;
  filled :
      (net : NetworkSeen) (pairs : List (ℕ × ℕ))
      → AreCostsAt net pairs l.order l.first l.costs
      → AreFilled net pairs l.order l.first l.fn.filled
      → AreFilled net pairs l.order (l.first + l.at) l.filled;
}
