-- What the status of the program says of the bytes that it took and wrote.
use Rattle.std.specs.Prelude.{◌≡◌, ◌⊎◌, ℕ, Bool, true, false, List, Option, Result, Ok, Err}
use Rattle.std.specs.Result.{IfErr, OnErr, OnOk}
use Rattle.std.specs.Io.KnownBytes.{Keeps}
use Rattle.clap.specs.Words.{Text}
use Rattle.job_answer.specs.declared.question.asked.Asked.{Asked}
use Rattle.job_answer.specs.declared.fault.Fault.{Fault}
use Rattle.job_answer.specs.Choices.{status_of}
use Rattle.job_answer.specs.Outcome.{IsAnsweredBy, IsBegunBy, IsReply}
use Rattle.session_answer.specs.Terms.{terms_of}
use Rattle.session_answer.specs.Conversations.{IsAnsweredSession}
use Rattle.session_answer.specs.Cuts.{EndsBy, IsCutSession}
use Rattle.command_line.specs.declared.options.Options.{Options}
use Rattle.command_line.specs.declared.refusals.Refusal.{Refusal}
use Rattle.command_line.specs.declared.refusals.Refusal.TheVariants as refusal
use Rattle.command_line.specs.CommandLine.{AskForNothing, AskForText, WordsAskFor}
use Rattle.obim_query.specs.declared.Ran.{Ran}
use Rattle.obim_query.specs.declared.Ran.TheVariants as ran

-- 0 after an answer, and else the status of the fault
abbrev pub status_after : Result (Unit {0}) Fault → ℕ
status_after (Ok done) = 0
status_after (Err fault) = status_of fault

-- memory is refused, a read or a write failed, or a thread is refused
abbrev pub IsSystemStatus : ℕ → Type 0
IsSystemStatus status = (status ≡ 3) ⊎ (status ≡ 4) ⊎ (status ≡ 5)

-- The status of a reply to a job, of which these bytes were taken and to which these were given.
pub record StatusSays (asked : Asked) (taken_from taken_to given_from given_to : Option (List ℕ)) (status : ℕ)
    : Type 0 where
  -- at 0 the whole text was taken, and exactly its answer was written
  pub answered : status ≡ 0
      → IsAnsweredBy asked.limit asked.answer asked.lines taken_from taken_to given_from given_to
  -- at 2, where the text is refused, nothing was written
  pub refused : status ≡ 2 → Keeps given_from given_to
  -- where the system failed, nothing was written, or a prefix of the answer to the whole text
  pub cut : IsSystemStatus status → Keeps given_from given_to
      ⊎ IsBegunBy asked.limit asked.answer asked.lines taken_from taken_to given_from given_to
  -- and there is no other status: 1 is the command line's
  pub only : (status ≡ 0) ⊎ (status ≡ 2) ⊎ IsSystemStatus status

-- The reply, of which the status tells: which fault it was, and what that one says.
pub record HasReplied (asked : Asked) (taken_from taken_to given_from given_to : Option (List ℕ)) (status : ℕ)
    : Type 0 where
  pub result : Result (Unit {0}) Fault
  pub reply : IsReply asked.limit asked.answer asked.lines taken_from taken_to given_from given_to result
  pub status_is : status ≡ status_after result
  pub says : StatusSays asked taken_from taken_to given_from given_to status

-- A job may come from standard input: that is no terminal, or the words have `-`.
abbrev pub MayCome : Bool → Options → Type 0
MayCome is_terminal options = (is_terminal ≡ false) ⊎ (options.typed ≡ true)

-- The words ask for an answer, and the status is that of the reply.
pub record HasAnswered (words : List Text) (is_terminal : Bool) (taken_from taken_to given_from given_to : Option (List ℕ))
    (status : ℕ) : Type 0 where
  pub options : Options
  pub asked : WordsAskFor words options
  pub job : MayCome is_terminal options
  pub one : options.session ≡ false
  pub replied : HasReplied options.asked taken_from taken_to given_from given_to status

-- The replies of a session, of which the status tells whether all were given.
pub record HasServed (asked : Asked) (taken_from taken_to given_from given_to : Option (List ℕ)) (status : ℕ)
    : Type 0 where
  pub result : Result (Unit {0}) Fault
  -- all was taken, it is a graph and then requests, and exactly their replies were written
  pub replied : OnOk result
      (IsAnsweredSession asked.limit (terms_of asked) taken_from taken_to given_from given_to)
  -- at a fault a prefix of the replies was written
  pub cut : OnErr result (IsCutSession asked.limit (terms_of asked) taken_from taken_to given_from given_to)
  -- which is the text's, or the system's
  pub says : IfErr result (EndsBy asked.limit taken_from taken_to)
  pub status_is : status ≡ status_after result

-- The words ask for a session, and the status is that of its end.
pub record HasConversed (words : List Text) (is_terminal : Bool)
    (taken_from taken_to given_from given_to : Option (List ℕ)) (status : ℕ) : Type 0 where
  pub options : Options
  pub asked : WordsAskFor words options
  pub job : MayCome is_terminal options
  pub more : options.session ≡ true
  pub served : HasServed options.asked taken_from taken_to given_from given_to status

-- the status where the command line is refused, or memory for it is
abbrev pub IsRefusalStatus : ℕ → Type 0
IsRefusalStatus status = (status ≡ 1) ⊎ (status ≡ 3)

-- what a refusal comes to: a text that is to be printed, 1 after a sentence, and 3 where memory is refused
abbrev pub IsEndOf : Refusal → Ran → Type 0
IsEndOf (refusal.Text text) end = end ≡ ran.Text text
IsEndOf (refusal.Line line) end = end ≡ ran.Status 1
IsEndOf refusal.Memory end = end ≡ ran.Status 3

-- The words ask for options, but have no `-`, and standard input is a terminal.
pub record IsAtTerminal (words : List Text) (is_terminal : Bool) : Type 0 where
  pub options : Options
  pub asked : WordsAskFor words options
  pub terminal : is_terminal ≡ true
  pub untyped : options.typed ≡ false

-- No answer is begun: the command line is refused, or there is no job. Nothing is taken or written.
pub record HasNotBegun (words : List Text) (is_terminal : Bool) (taken_from taken_to given_from given_to : Option (List ℕ))
    (status : ℕ) : Type 0 where
  pub taken : Keeps taken_from taken_to
  pub written : Keeps given_from given_to
  pub status_is : IsRefusalStatus status
  -- 1 only where the words ask for no options, or no job may come
  pub refused : status ≡ 1 → AskForNothing words ⊎ IsAtTerminal words is_terminal

-- The words ask for the help or the version, which is still to be printed. Nothing is taken or written.
pub record HasText (words : List Text) (taken_from taken_to given_from given_to : Option (List ℕ)) : Type 0 where
  pub taken : Keeps taken_from taken_to
  pub written : Keeps given_from given_to
  pub asked : AskForText words

-- What a run of the program comes to, on these words, where standard input is a terminal or not.
abbrev pub HasRun : List Text → Bool → Option (List ℕ) → Option (List ℕ) → Option (List ℕ) → Option (List ℕ) → Ran
    → Type 0
HasRun words is_terminal taken_from taken_to given_from given_to (ran.Text text) =
    HasText words taken_from taken_to given_from given_to
HasRun words is_terminal taken_from taken_to given_from given_to (ran.Status status) =
    HasNotBegun words is_terminal taken_from taken_to given_from given_to status
    ⊎ HasAnswered words is_terminal taken_from taken_to given_from given_to status
    ⊎ HasConversed words is_terminal taken_from taken_to given_from given_to status
