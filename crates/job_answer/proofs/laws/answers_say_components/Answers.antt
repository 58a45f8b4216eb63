use Rattle.job_answer.proofs.Costs as costs
use Rattle.job_answer.proofs.laws.answers_say_components.Goals as goal

pub returns : goal.returns
returns c = costs.answers_say_components c.least_labels_are_components.ensures
