use Rattle.job_answer.proofs.Short as short
use Rattle.job_answer.proofs.laws.raw_pairs_say_the_same.Goals as goal

pub returns : goal.returns
returns c = short.raw_pairs_say_the_same c.least_labels_are_unique.ensures
