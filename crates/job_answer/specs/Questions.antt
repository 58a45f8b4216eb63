-- Questions to networks that are kept, and their answers.
use Rattle.std.specs.Prelude.{◌≡◌, ℕ, List, false}
use Rattle.dimacs_text.specs.Jobs.{Content, IsQuestionWithin, question_of}
use Rattle.job_answer.specs.declared.question.asked.Answer.{Answer}
use Rattle.job_answer.specs.declared.question.Question.{Question}
use Rattle.job_answer.specs.AnswerText.{growth_for}
use Rattle.job_answer.specs.Graphs.{AreGraphs, AreGraphsFor}
use Rattle.job_answer.specs.InNetworks.{IsTextIn}
use Rattle.job_answer.specs.Outcome.{is_unasked}
use Rattle.job_answer.specs.Within.{HasNoSources}

-- the question asks for something, of vertices of the network, and for sources if it has a bound
pub record IsAnswerable (kind : Answer) (question : Question) : Type 0 where
  pub are : AreGraphs question.graphs.now
  pub within : IsQuestionWithin question.graphs.now.network.n (question_of question.ask.now)
  pub asked : is_unasked kind (question_of question.ask.now) ≡ false
  pub sources : ¬ (HasNoSources kind question.lines (question_of question.ask.now))

-- the text answers the question
abbrev pub IsTextOf : Answer → Question → List ℕ → Type 0
IsTextOf kind question = IsTextIn question.graphs.now kind question.lines (question_of question.ask.now)

-- the networks are those of a job, and the question is its question
pub record IsOfJob (kind : Answer) (question : Question) (job : Content) : Type 0 where
  pub graphs : AreGraphsFor kind job.n job.arcs (growth_for kind job) question.graphs.now
  pub asks : question_of question.ask.now ≡ job.question
