use Rattle.dimacs_text.proofs.TextLaws.{one_first_fault}
use Rattle.dimacs_text.proofs.laws.a_text_has_one_first_fault.Goals as goal

pub returns : goal.returns
returns c = one_first_fault
