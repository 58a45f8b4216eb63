use Rattle.least_costs.proofs.Unreached as unreached
use Rattle.least_costs.proofs.laws.costs_are_labels.Goals as goal

pub returns : goal.returns
returns c = unreached.costs_are_labels c.least_labels_exist.ensures c.inf_means_no_walk.ensures
