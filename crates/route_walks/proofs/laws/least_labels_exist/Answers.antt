use Rattle.route_walks.proofs.Existence as existence
use Rattle.route_walks.proofs.laws.least_labels_exist.Goals as goal

pub returns : goal.returns
returns c = existence.least_labels_exist
