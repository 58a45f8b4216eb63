use Rattle.std.proofs.Common.{rules}
use Rattle.job_answer.proofs.answering.answer_watched.Goals as goal

pub returns-in_err-job : goal.returns-in_err-job
returns-in_err-job g c = search rules

pub returns : goal.returns
returns g c = search rules
