use Rattle.route_walks.proofs.Bounds as bounds
use Rattle.route_walks.proofs.Limits as limits
use Rattle.route_walks.proofs.laws.settled_toward_a_vertex_is_least.Goals as goal

pub returns : goal.returns
returns c = record {
  settled = limits.settled_toward_is_least_toward;
  there = limits.least_toward_is_least_up_to;
  special = limits.least_up_to_is_least_toward;
  past = bounds.bounds_are_past;
}
