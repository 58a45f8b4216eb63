use Rattle.job_answer.proofs.Existence as existence
use Rattle.job_answer.proofs.laws.asked_jobs_have_answers.Goals as goal

pub returns : goal.returns
returns c =
    existence.asked_jobs_have_answers c.least_labels_exist.ensures c.hops_and_parents_exist.ensures
