use Rattle.route_walks.proofs.SameArcs as same_arcs
use Rattle.route_walks.proofs.laws.least_labels_follow_the_arcs.Goals as goal

pub returns : goal.returns
returns c = same_arcs.least_labels_follow_the_arcs
