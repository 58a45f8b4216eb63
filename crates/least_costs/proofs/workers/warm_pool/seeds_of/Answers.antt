use Rattle.std.proofs.Common.{rules}
use Rattle.least_costs.proofs.workers.warm_pool.seeds_of.Goals as goal

pub returns-in-At-clause-exact : goal.returns-in-At-clause-exact
returns-in-At-clause-exact c = search rules
