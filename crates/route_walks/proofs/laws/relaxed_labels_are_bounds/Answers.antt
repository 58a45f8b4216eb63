use Rattle.route_walks.proofs.Bounds as bounds
use Rattle.route_walks.proofs.laws.relaxed_labels_are_bounds.Goals as goal

pub returns : goal.returns
returns c = record {
  forward = bounds.relaxed_labels_are_bounds;
  backward = bounds.backward_labels_are_bounds;
}
