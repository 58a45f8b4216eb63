-- Least labels are least up to INF.
use Rattle.route_walks.specs.declared.graph.TheConstants.{INF}
use Rattle.walk_report.proofs.LeastWalks.{labels-up-to}
use Rattle.walk_report.proofs.hop.hops.Goals as goal

pub hops_below-requires-clause-least : goal.hops_below-requires-clause-least
hops_below-requires-clause-least c = labels-up-to INF c.requires.least
