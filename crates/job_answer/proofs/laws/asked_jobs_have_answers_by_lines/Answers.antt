use Rattle.job_answer.proofs.Existence as existence
use Rattle.job_answer.proofs.laws.asked_jobs_have_answers_by_lines.Goals as goal

pub returns : goal.returns
returns c =
    existence.asked_jobs_have_answers_by_lines c.least_labels_exist.ensures c.hops_and_parents_exist.ensures
