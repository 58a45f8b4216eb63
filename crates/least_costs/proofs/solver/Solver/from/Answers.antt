use Rattle.std.proofs.Common.{rules}
use Rattle.least_costs.proofs.solver.Solver.from.Goals as goal

pub returns : goal.returns
returns g c = search rules
