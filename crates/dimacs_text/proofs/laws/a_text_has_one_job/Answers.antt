use Rattle.dimacs_text.proofs.TextLaws.{one_job}
use Rattle.dimacs_text.proofs.laws.a_text_has_one_job.Goals as goal

pub returns : goal.returns
returns c = one_job
