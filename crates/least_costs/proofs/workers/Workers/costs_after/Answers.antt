use Rattle.std.proofs.Common.{rules}
use Rattle.least_costs.proofs.workers.Workers.costs_after.Goals as goal

pub new-requires-clause-least : goal.new-requires-clause-least
new-requires-clause-least g c = search rules

pub returns-clause-net : goal.returns-clause-net
returns-clause-net g c = search rules
