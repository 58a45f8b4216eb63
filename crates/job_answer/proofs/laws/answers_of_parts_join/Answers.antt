use Rattle.job_answer.proofs.Parts as parts
use Rattle.job_answer.proofs.laws.answers_of_parts_join.Goals as goal

pub returns : goal.returns
returns c = parts.answers_of_parts_join
