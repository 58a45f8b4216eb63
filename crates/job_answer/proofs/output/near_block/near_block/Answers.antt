use Rattle.std.proofs.Common.{ap}
use Rattle.job_answer.specs.Choices.{IsLinesAsked}
use Rattle.job_answer.specs.LineWalks.{bound_in}
use Rattle.job_answer.proofs.output.near_block.near_block.Goals as goal

pub near_within-requires-clause-bound : goal.near_within-requires-clause-bound
near_within-requires-clause-bound g c lives longer =
    let found = c.in-Within in
    let asked : IsLinesAsked c.args.lines = rw c.in-At.is at c.requires.lines in
    asked found.bound (ap bound_in found.is)
