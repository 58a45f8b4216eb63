-- What may be asked, which fault the program makes of one below it, and which status a fault has.
use Rattle.std.specs.Prelude.{◌≡◌, ◌≢◌, ℕ, ◌^◌, ◌<◌, ◌≤◌, true}
use Rattle.std.specs.Option.{ForSome}
use Rattle.route_walks.specs.declared.graph.TheConstants.{INF}
use Rattle.job_reader.specs.declared.fault.ReadFault.{ReadFault}
use Rattle.job_reader.specs.declared.fault.ReadFault.TheVariants as refused
use Rattle.job_answer.specs.declared.question.asked.Answer.{Answer}
use Rattle.job_answer.specs.declared.question.asked.Answer.TheVariants.{Components}
use Rattle.job_answer.specs.declared.question.asked.Lines.{Lines}
use Rattle.job_answer.specs.declared.fault.Fault.{Fault}
use Rattle.job_answer.specs.declared.fault.Fault.TheVariants as fault
use Rattle.job_answer.specs.LineWalks.{bound_in, has_walks}

-- a bound is a cost
abbrev pub IsLinesAsked : Lines → Type 0
IsLinesAsked lines = ForSome (bound_in lines) (λ bound. bound < INF)

-- what may be asked: walks but of components, a bound that is a cost, and a limit of at most 2^36 bytes
pub record IsAsked (kind : Answer) (lines_are : Lines) (limit : ℕ) : Type 0 where
  pub walked : has_walks lines_are ≡ true → kind ≢ Components
  pub bounded : IsLinesAsked lines_are
  pub few : limit ≤ 2 ^ 36

-- the exit status of the program after a fault
abbrev pub status_of : Fault → ℕ
status_of fault.Read = 4
status_of fault.TooLong = 2
status_of (fault.Text line kind) = 2
status_of fault.NoAsk = 2
status_of fault.NoSources = 2
status_of fault.Memory = 3
status_of fault.Spawn = 5
status_of fault.Write = 4

-- why a reader gave no job, as a fault of the program
abbrev pub fault_of_reading : ReadFault → Fault
fault_of_reading refused.Read = fault.Read
fault_of_reading refused.TooLong = fault.TooLong
fault_of_reading (refused.Text line kind) = fault.Text line kind
fault_of_reading refused.Memory = fault.Memory
