use Rattle.route_walks.proofs.Labels as labels
use Rattle.route_walks.proofs.laws.least_labels_are_settled.Goals as goal

pub returns : goal.returns
returns c = labels.least_labels_are_settled
