use Rattle.job_answer.proofs.Within as within
use Rattle.job_answer.proofs.laws.lines_are_unique.Goals as goal

pub returns : goal.returns
returns c =
    within.lines_are_unique c.least_labels_are_unique.ensures c.hops_and_parents_are_unique.ensures
    c.blocks_are_unique.ensures
