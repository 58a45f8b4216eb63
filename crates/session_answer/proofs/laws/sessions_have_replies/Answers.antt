use Rattle.session_answer.proofs.Existence as existence
use Rattle.session_answer.proofs.laws.sessions_have_replies.Goals as goal

pub returns : goal.returns
returns c = existence.sessions_have_replies c.asked_jobs_have_answers_by_lines.ensures
