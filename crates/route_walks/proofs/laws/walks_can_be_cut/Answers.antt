use Rattle.route_walks.proofs.Cuts as cuts
use Rattle.route_walks.proofs.laws.walks_can_be_cut.Goals as goal

pub returns : goal.returns
returns c = cuts.walks_can_be_cut
