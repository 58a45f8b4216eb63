-- What a reader gave: the text of a job, or why it is none; and how much of it was taken.
use Rattle.std.specs.Prelude.{◌≡◌, ◌⊎◌, ◌≤◌, ℕ, List, length, Option, ⊤}
use Rattle.dimacs_text.specs.declared.fault.LineKind.{LineKind}
use Rattle.dimacs_text.specs.declared.fault.TextFault.{TextFault}
use Rattle.dimacs_text.specs.declared.fault.TextFault.TheVariants as refused
use Rattle.dimacs_text.specs.Faults.{IsFirstFault}
use Rattle.dimacs_text.specs.Jobs.{Content, IsJobText, IsWithinLimits}
use Rattle.job_reader.specs.declared.fault.ReadFault.{ReadFault}
use Rattle.job_reader.specs.declared.fault.ReadFault.TheVariants as fault
use Rattle.job_reader.specs.Taken.{TakesAtMost, TakesOneMore, TakesWhole}

-- the whole text was taken, within the limit, and it is the job's
pub record IsRequest (limit : ℕ) (before after : Option (List ℕ)) (job : Content) : Type 0 where
  pub text : List ℕ
  pub whole : TakesWhole before after text
  pub few : length text ≤ limit
  pub is_job : IsJobText text job
  pub limits : IsWithinLimits job

-- the whole text was taken, and its first fault is this one
pub record IsFaulty (before after : Option (List ℕ)) (line : ℕ) (kind : LineKind) : Type 0 where
  pub text : List ℕ
  pub whole : TakesWhole before after text
  pub first : IsFirstFault text line kind

-- at most the limit was taken, and one byte more if the text is too long
abbrev pub HasTaken : ℕ → Option (List ℕ) → Option (List ℕ) → ReadFault → Type 0
HasTaken limit before after fault.TooLong = TakesOneMore limit before after
HasTaken limit before after _ = TakesAtMost limit before after

-- a fault of the text is its first one; the others say nothing of it
abbrev pub SaysOfText : Option (List ℕ) → Option (List ℕ) → ReadFault → Type 0
SaysOfText before after (fault.Text line kind) = IsFaulty before after line kind
SaysOfText before after _ = ⊤

-- the reader failed, or memory was refused
abbrev pub IsOfSystem : ReadFault → Type 0
IsOfSystem kind = (kind ≡ fault.Read) ⊎ (kind ≡ fault.Memory)

-- what the reader of the text refused, as a fault of reading
abbrev pub fault_of : TextFault → ReadFault
fault_of refused.Memory = fault.Memory
fault_of (refused.Line line kind) = fault.Text line kind
