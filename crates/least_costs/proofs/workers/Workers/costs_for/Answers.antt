use Rattle.std.proofs.Common.{rules}
use Rattle.least_costs.proofs.workers.Workers.costs_for.Goals as goal

pub reach-requires-clause-start : goal.reach-requires-clause-start
reach-requires-clause-start g c κs within = search rules

pub new-requires-clause-end : goal.new-requires-clause-end
new-requires-clause-end g c = search rules

pub new-requires-clause-least : goal.new-requires-clause-least
new-requires-clause-least g c = search rules
