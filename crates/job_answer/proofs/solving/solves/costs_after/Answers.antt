use Rattle.std.proofs.Common.{rules}
use Rattle.job_answer.proofs.solving.solves.costs_after.Goals as goal

pub costs_for_after-requires-clause-grown : goal.costs_for_after-requires-clause-grown
costs_for_after-requires-clause-grown g c κs within = search rules

pub returns : goal.returns
returns g c = search rules
