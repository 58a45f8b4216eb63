-- The parts of a job: the same graph, and some of its queries each.
use Rattle.std.specs.Prelude.{◌≢◌, ℕ, List, ◌++◌}
use Rattle.dimacs_text.specs.Jobs.{Content, Question, from_sources, of_pairs}
use Rattle.job_answer.specs.declared.question.asked.Answer.{Answer}
use Rattle.job_answer.specs.declared.question.asked.Answer.TheVariants.{Components}
use Rattle.job_answer.specs.declared.question.asked.Lines.{Lines}
use Rattle.job_answer.specs.Within.{IsAnswerTextBy}

-- the job with other queries
abbrev pub with_question : Content → Question → Content
with_question job question = record job { question = question }

-- the answers of two parts, one after the other, are the answer by the same lines of the job with the queries of both
abbrev pub DoPartsJoin : {Query : Type 0} → Answer → Lines → Content → (List Query → Question) → Type 0
DoPartsJoin {Query} kind lines job ask =
    (first second : List Query) (text more : List ℕ)
    → IsAnswerTextBy kind lines (with_question job (ask first)) text
    → IsAnswerTextBy kind lines (with_question job (ask second)) more
    → IsAnswerTextBy kind lines (with_question job (ask (first ++ second))) (text ++ more)

-- so sources and pairs can be cut anywhere
abbrev pub AnswersOfPartsJoin : Type 0
AnswersOfPartsJoin =
    (kind : Answer) (lines : Lines) (job : Content)
    → kind ≢ Components
    → DoPartsJoin kind lines job from_sources × DoPartsJoin kind lines job of_pairs
