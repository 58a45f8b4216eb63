use Rattle.job_answer.proofs.Uniqueness as uniqueness
use Rattle.job_answer.proofs.laws.answer_texts_are_unique.Goals as goal

pub returns : goal.returns
returns c = uniqueness.answer_texts_are_unique c.blocks_are_unique.ensures
