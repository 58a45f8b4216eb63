use Rattle.dimacs_text.proofs.TextLaws.{no_fault}
use Rattle.dimacs_text.proofs.laws.job_texts_have_no_fault.Goals as goal

pub returns : goal.returns
returns c = no_fault
