use Rattle.job_answer.proofs.Within as within
use Rattle.job_answer.proofs.laws.answer_texts_by_lines_are_unique.Goals as goal

pub returns : goal.returns
returns c = within.answer_texts_by_lines_are_unique c.blocks_are_unique.ensures c.lines_are_unique.ensures
