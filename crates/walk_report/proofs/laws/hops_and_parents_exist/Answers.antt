use Rattle.walk_report.proofs.Existence as existence
use Rattle.walk_report.proofs.laws.hops_and_parents_exist.Goals as goal

pub returns : goal.returns
returns c = existence.hops_and_parents_exist c.least_labels_exist.ensures
