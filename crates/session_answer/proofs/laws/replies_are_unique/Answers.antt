use Rattle.session_answer.proofs.Existence as existence
use Rattle.session_answer.proofs.laws.replies_are_unique.Goals as goal

pub returns : goal.returns
returns c = existence.replies_are_unique c.answer_texts_by_lines_are_unique.ensures
