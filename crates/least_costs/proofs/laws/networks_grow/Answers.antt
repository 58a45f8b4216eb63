use Rattle.least_costs.proofs.Networks.{networks_grow}
use Rattle.least_costs.proofs.laws.networks_grow.Goals as goal

pub returns : goal.returns
returns c = networks_grow
