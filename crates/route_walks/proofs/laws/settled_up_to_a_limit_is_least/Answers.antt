use Rattle.route_walks.proofs.Limits as limits
use Rattle.route_walks.proofs.laws.settled_up_to_a_limit_is_least.Goals as goal

pub returns : goal.returns
returns c = limits.settled_up_to_is_least_up_to
