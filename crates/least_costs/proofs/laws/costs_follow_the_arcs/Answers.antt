use Rattle.least_costs.proofs.Unreached.{costs_follow_the_arcs}
use Rattle.least_costs.proofs.laws.costs_follow_the_arcs.Goals as goal

pub returns : goal.returns
returns c = costs_follow_the_arcs
