use Rattle.job_answer.proofs.Short as short
use Rattle.job_answer.proofs.laws.totals_add_up.Goals as goal

pub returns : goal.returns
returns c = short.totals_add_up c.least_labels_are_unique.ensures
