use Rattle.job_answer.proofs.Costs as costs
use Rattle.job_answer.proofs.laws.answers_say_costs.Goals as goal

pub returns : goal.returns
returns c = costs.answers_say_costs c.inf_means_no_walk.ensures c.printed_walks_are_walks.ensures
