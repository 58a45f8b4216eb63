use Rattle.std.proofs.Common.{◌≡◌, ◌-◌, ◌<◌, ◌≤◌, ℕ, length}
use Rattle.least_costs.specs.Pairs.{pair_at}
use Rattle.least_costs.proofs.pairs.order.run_end.Given as goal

abbrev pub invariant-loop-end : goal.invariant-loop-end
invariant-loop-end l = record {
  after : l.first < l.end;
  within : l.end ≤ length l.order;
  alike : (k : ℕ) → l.first ≤ k → k < l.end → l.source ≡ (pair_at l.order k).0;
}

abbrev pub decreases-loop-end : goal.decreases-loop-end
decreases-loop-end l = length l.order - l.end
