-- What a run of the program has read and written, for each outcome.
use Rattle.std.specs.Prelude.{◌≡◌, ◌≢◌, ◌<◌, ◌⊎◌, ℕ, Bool, true, false, List, length, Option, Result, ⊤}
use Rattle.std.specs.Result.{OnOk, IfErr}
use Rattle.std.specs.Io.KnownBytes.{Keeps}
use Rattle.dimacs_text.specs.Jobs.{Content, Question, absent, from_sources, of_pairs, IsJobText}
use Rattle.dimacs_text.specs.Faults.{IsFirstFault}
use Rattle.job_answer.specs.declared.question.asked.Answer.{Answer}
use Rattle.job_answer.specs.declared.question.asked.Answer.TheVariants as answer
use Rattle.job_answer.specs.declared.question.asked.Lines.{Lines}
use Rattle.job_answer.specs.declared.fault.Fault.{Fault}
use Rattle.job_answer.specs.declared.fault.Fault.TheVariants as fault
use Rattle.job_reader.specs.Request.{IsFaulty, IsRequest}
use Rattle.job_reader.specs.Taken.{TakesAtMost, TakesOneMore}
use Rattle.job_answer.specs.Bytes.{Writes, WritesPrefix}
use Rattle.job_answer.specs.Within.{HasNoSources, IsAnswerTextBy}

-- the whole text was taken, it is a job's, and exactly the job's answer was written
pub record IsAnsweredBy (limit : ℕ) (kind : Answer) (lines : Lines)
    (taken_from taken_to given_from given_to : Option (List ℕ)) : Type 0 where
  pub job : Content
  pub request : IsRequest limit taken_from taken_to job
  pub reply : Writes (IsAnswerTextBy kind lines job) given_from given_to

-- without a section of queries nothing is asked, but for components
abbrev pub is_unasked : Answer → Question → Bool
is_unasked answer.Distances absent = true
is_unasked answer.Distances (from_sources sources) = false
is_unasked answer.Distances (of_pairs pairs) = false
is_unasked answer.Levels absent = true
is_unasked answer.Levels (from_sources sources) = false
is_unasked answer.Levels (of_pairs pairs) = false
is_unasked answer.Components question = false

-- the job has no section of queries, and isn't asked for components
pub record IsUnasked (kind : Answer) (job : Content) : Type 0 where
  pub unasked : job.question ≡ absent
  pub needed : kind ≢ answer.Components

-- the job is asked, and exactly a prefix of its answer was written
pub record IsReplyBegun (kind : Answer) (lines : Lines) (job : Content)
    (before after : Option (List ℕ)) : Type 0 where
  pub asked : ¬ (IsUnasked kind job)
  pub has_sources : ¬ (HasNoSources kind lines job.question)
  pub cut : WritesPrefix (IsAnswerTextBy kind lines job) before after

-- the whole text was taken, it is a job's that is asked, and exactly a prefix of its answer was written
pub record IsBegunBy (limit : ℕ) (kind : Answer) (lines : Lines)
    (taken_from taken_to given_from given_to : Option (List ℕ)) : Type 0 where
  pub job : Content
  pub request : IsRequest limit taken_from taken_to job
  pub reply : IsReplyBegun kind lines job given_from given_to

-- the text is a job's, and the bytes are the job's answer
pub record IsAnswerOf (kind : Answer) (lines : Lines) (text bytes : List ℕ) : Type 0 where
  pub job : Content
  pub is_job : IsJobText text job
  pub is_answer : IsAnswerTextBy kind lines job bytes

-- the whole text was taken, and it is a job's without a section of queries
pub record IsRequestUnasked (limit : ℕ) (kind : Answer) (before after : Option (List ℕ)) : Type 0 where
  pub job : Content
  pub request : IsRequest limit before after job
  pub unasked : IsUnasked kind job

-- the whole text was taken, and it is a job's with pairs, though a bound asks for sources
pub record IsRequestOfPairs (limit : ℕ) (kind : Answer) (lines : Lines) (before after : Option (List ℕ)) : Type 0
  where
    pub job : Content
    pub request : IsRequest limit before after job
    pub pairs : HasNoSources kind lines job.question

-- the text is a job's without a section of queries
pub record IsTextUnasked (kind : Answer) (text : List ℕ) : Type 0 where
  pub job : Content
  pub is_job : IsJobText text job
  pub unasked : IsUnasked kind job

-- the text is a job's with pairs, though a bound asks for sources
pub record IsTextOfPairs (kind : Answer) (lines : Lines) (text : List ℕ) : Type 0 where
  pub job : Content
  pub is_job : IsJobText text job
  pub pairs : HasNoSources kind lines job.question

-- What is so after a fault: how much of the text was taken, what the fault says of it, and what was written of the
-- answer.
pub record FaultRow : Type 1 where
  pub taken : Type 0
  pub says : Type 0
  pub written : Type 0

-- at most the limit was taken, and one byte more if the text is too long
abbrev pub HasTaken : ℕ → Option (List ℕ) → Option (List ℕ) → Fault → Type 0
HasTaken limit before after fault.TooLong = TakesOneMore limit before after
HasTaken limit before after _ = TakesAtMost limit before after

module _ (limit : ℕ) (kind : Answer) (lines : Lines)
    (taken_from taken_to given_from given_to : Option (List ℕ)) where
  -- A fault by which the text is refused: nothing was written.
  abbrev pub refused_row : Fault → Type 0 → FaultRow
  refused_row fault says =
      record { taken = HasTaken limit taken_from taken_to fault; says = says; written = Keeps given_from given_to }

  -- A fault of the system: it says nothing of the text, and this was written.
  abbrev pub system_row : Fault → Type 0 → FaultRow
  system_row fault written = record { taken = HasTaken limit taken_from taken_to fault; says = ⊤; written = written }

  -- an answer of which a prefix was written
  abbrev pub HasBegun : Type 0
  HasBegun = IsBegunBy limit kind lines taken_from taken_to given_from given_to

  -- The table of the faults. A fault of the text is its first one; if nothing is asked the job is legal all the same.
  -- Once the job is read, a prefix of its answer was written; memory may be refused before that too.
  abbrev pub row_of : Fault → FaultRow
  row_of fault.TooLong = refused_row fault.TooLong ⊤
  row_of (fault.Text line what) = refused_row (fault.Text line what) (IsFaulty taken_from taken_to line what)
  row_of fault.NoAsk = refused_row fault.NoAsk (IsRequestUnasked limit kind taken_from taken_to)
  row_of fault.NoSources = refused_row fault.NoSources (IsRequestOfPairs limit kind lines taken_from taken_to)
  row_of fault.Read = system_row fault.Read (Keeps given_from given_to)
  row_of fault.Memory = system_row fault.Memory (Keeps given_from given_to ⊎ HasBegun)
  row_of fault.Spawn = system_row fault.Spawn HasBegun
  row_of fault.Write = system_row fault.Write HasBegun

  -- what a call says that reads a job text and writes its answer
  pub record IsReply (result : Result (Unit {0}) Fault) : Type 0 where
    -- the whole text was read, it is a job's, and exactly its answer was written
    pub answered : OnOk result (IsAnsweredBy limit kind lines taken_from taken_to given_from given_to)
    -- at a fault what the table says
    pub taken : IfErr result (λ fault. (row_of fault).taken)
    pub says : IfErr result (λ fault. (row_of fault).says)
    pub written : IfErr result (λ fault. (row_of fault).written)

-- what a fault says of a text in memory, and of the limit; no writer can fail there
abbrev pub IsTrueOfBytes : ℕ → Answer → Lines → List ℕ → Fault → Type 0
IsTrueOfBytes limit kind lines text fault.TooLong = limit < length text
IsTrueOfBytes limit kind lines text (fault.Text line what) = IsFirstFault text line what
IsTrueOfBytes limit kind lines text fault.NoAsk = IsTextUnasked kind text
IsTrueOfBytes limit kind lines text fault.NoSources = IsTextOfPairs kind lines text
IsTrueOfBytes limit kind lines text fault.Write = ⊥
IsTrueOfBytes limit kind lines text _ = ⊤

-- the faults of working out blocks and writing them
abbrev pub IsWritingFault : Fault → Type 0
IsWritingFault fault.Memory = ⊤
IsWritingFault fault.Spawn = ⊤
IsWritingFault fault.Write = ⊤
IsWritingFault _ = ⊥

-- What is so after each fault of answering a job that was read. NoAsk: the job asks for nothing. NoSources: it has
-- pairs, and a bound asks for sources. Nothing was written then. After a fault of the system a prefix of the answer was
-- written. There is no other fault.
abbrev pub IsReplyFault : Answer → Lines → Content → Option (List ℕ) → Option (List ℕ) → Fault → Type 0
IsReplyFault kind lines job before after fault.NoAsk = IsUnasked kind job × Keeps before after
IsReplyFault kind lines job before after fault.NoSources = HasNoSources kind lines job.question × Keeps before after
IsReplyFault kind lines job before after fault.Memory = IsReplyBegun kind lines job before after
IsReplyFault kind lines job before after fault.Spawn = IsReplyBegun kind lines job before after
IsReplyFault kind lines job before after fault.Write = IsReplyBegun kind lines job before after
IsReplyFault kind lines job before after _ = ⊥
