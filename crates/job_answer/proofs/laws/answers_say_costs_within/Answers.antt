use Rattle.job_answer.proofs.Within as within
use Rattle.job_answer.proofs.laws.answers_say_costs_within.Goals as goal

pub returns : goal.returns
returns c =
    within.answers_say_costs_within c.inf_means_no_walk.ensures c.printed_walks_are_walks.ensures
