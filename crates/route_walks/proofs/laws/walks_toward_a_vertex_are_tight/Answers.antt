use Rattle.route_walks.proofs.Limits as limits
use Rattle.route_walks.proofs.laws.walks_toward_a_vertex_are_tight.Goals as goal

pub returns : goal.returns
returns c = limits.walks_toward_are_tight
