use Rattle.dimacs_text.proofs.Existence.{job_or_fault}
use Rattle.dimacs_text.proofs.laws.each_text_is_a_job_or_fails.Goals as goal

pub returns : goal.returns
returns c = job_or_fault
