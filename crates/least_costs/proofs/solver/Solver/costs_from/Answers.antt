use Rattle.std.proofs.Common.{rules}
use Rattle.least_costs.proofs.solver.Solver.costs_from.Goals as goal

pub returns-clause-start : goal.returns-clause-start
returns-clause-start g c = search rules
