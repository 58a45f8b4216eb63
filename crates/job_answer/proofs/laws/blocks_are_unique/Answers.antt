use Rattle.job_answer.proofs.Uniqueness as uniqueness
use Rattle.job_answer.proofs.laws.blocks_are_unique.Goals as goal

pub returns : goal.returns
returns c = uniqueness.blocks_are_unique c.least_labels_are_unique.ensures c.hops_and_parents_are_unique.ensures
