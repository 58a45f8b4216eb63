use Rattle.label_words.proofs.Resumes as resumes
use Rattle.label_words.proofs.laws.resumed_runs_end_alike.Goals as goal

pub returns : goal.returns
returns c = resumes.resumed_runs_end_alike
