use Rattle.job_answer.specs.Solves.{AreTargetsOf}
use Rattle.job_answer.proofs.output.walked_pairs.targets_of.Given as goal

abbrev pub invariant-loop-at : goal.invariant-loop-at
invariant-loop-at l = AreTargetsOf l.pairs l.fn.solve.first l.at l.targets.items
