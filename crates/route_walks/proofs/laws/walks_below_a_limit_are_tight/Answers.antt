use Rattle.route_walks.proofs.Limits as limits
use Rattle.route_walks.proofs.laws.walks_below_a_limit_are_tight.Goals as goal

pub returns : goal.returns
returns c = limits.walks_below_are_tight
