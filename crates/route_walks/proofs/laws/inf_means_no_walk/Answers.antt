use Rattle.route_walks.proofs.Cuts as cuts
use Rattle.route_walks.proofs.laws.inf_means_no_walk.Goals as goal

pub returns : goal.returns
returns c = cuts.inf_means_no_walk
