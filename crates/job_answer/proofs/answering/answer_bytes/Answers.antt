use Rattle.std.proofs.Common.{rules}
use Rattle.job_answer.proofs.answering.answer_bytes.Goals as goal

pub returns-in-Ok-clause-answered : goal.returns-in-Ok-clause-answered
returns-in-Ok-clause-answered g c = search rules
