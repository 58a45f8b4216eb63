-- A job that is asked has an answer.
use Rattle.std.specs.Prelude.{ℕ, Bool, List}
use Rattle.dimacs_text.specs.Jobs.{Content, IsWithinLimits}
use Rattle.job_answer.specs.declared.question.asked.Answer.{Answer}
use Rattle.job_answer.specs.declared.question.asked.Lines.{Lines}
use Rattle.job_answer.specs.AnswerText.{IsAnswerText}
use Rattle.job_answer.specs.Outcome.{IsUnasked}
use Rattle.job_answer.specs.Within.{HasNoSources, IsAnswerTextBy}

-- some text answers the job, of each kind, unless the job asks for nothing
abbrev pub AskedJobsHaveAnswers : Type 0
AskedJobsHaveAnswers =
    (kind : Answer) (walks : Bool) (job : Content)
    → IsWithinLimits job
    → ¬ (IsUnasked kind job)
    → (text : List ℕ) × IsAnswerText kind walks job text

-- so does some text by any lines, unless a bound asks for sources and the job has pairs
abbrev pub AskedJobsHaveAnswersByLines : Type 0
AskedJobsHaveAnswersByLines =
    (kind : Answer) (lines : Lines) (job : Content)
    → IsWithinLimits job
    → ¬ (IsUnasked kind job)
    → ¬ (HasNoSources kind lines job.question)
    → (text : List ℕ) × IsAnswerTextBy kind lines job text
