use Rattle.route_walks.proofs.Components as components
use Rattle.route_walks.proofs.laws.least_labels_are_components.Goals as goal

pub returns : goal.returns
returns c = components.least_labels_are_components
