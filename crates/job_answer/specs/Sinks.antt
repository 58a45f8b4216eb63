-- What is put into a sink: its writer is given some of it, and the rest waits, until the sink stops.
use Rattle.std.specs.Prelude.{◌≡◌, ℕ, ◌<◌, List, [], ◌++◌, length, max, Option, Some, None, IfSome}
use Rattle.std.specs.Prelude.{Result, OnErr, OnOk}
use Rattle.std.specs.Io.KnownBytes.{Appends}
use Rattle.route_walks.specs.declared.refusal.Memory.{Memory}
use Rattle.job_answer.specs.declared.fault.Fault.{Fault}
use Rattle.job_answer.specs.declared.fault.Fault.TheVariants as fault
use Rattle.job_answer.specs.declared.output.sink.Sink.{Sink}
use Rattle.job_answer.specs.declared.output.sink.Stop.{Stop}
use Rattle.job_answer.specs.declared.output.sink.Stop.TheVariants as stop

-- the fault of a stop
abbrev pub fault_of : Stop → Fault
fault_of stop.Memory = fault.Memory
fault_of stop.Write = fault.Write

-- it is this text
abbrev pub Is : List ℕ → List ℕ → Type 0
Is text other = other ≡ text

-- what is due when a text is put: what waits and the text, or nothing if the sink had stopped
abbrev pub due : Option Stop → List ℕ → List ℕ → List ℕ
due None waiting text = waiting ++ text
due (Some stop) waiting text = []

-- less than a piece waits
abbrev pub IsShort : {W : Type 0} → Sink W → Type 0
IsShort sink = length sink.waiting.now.items < max 1 sink.piece

-- the sink is before the same writer, with the same list of what waits; what stopped it stops it still; and less than a
-- piece waits if it did so before
pub record IsStill {W : Type 0} (old new : Sink W) : Type 0 where
  pub writer : new.writer.ghost_name ≡ old.writer.ghost_name
  pub waiting : new.waiting.ghost_name ≡ old.waiting.ghost_name
  pub piece : new.piece ≡ old.piece
  pub stop : IfSome old.stop (λ stop. new.stop ≡ Some stop)
  pub few : IsShort old → IsShort new

-- a text was put: of what was due some was given, and the rest waits unless the sink has stopped
pub record PutsText {W : Type 0} (contents : W → Option (List ℕ)) (text : List ℕ) (old new : Sink W) : Type 0 where
  pub given : List ℕ
  pub left : List ℕ
  pub whole : due old.stop old.waiting.now.items text ≡ given ++ left
  pub appended : Appends (contents old.writer.now) (contents new.writer.now) given
  pub waits : new.stop ≡ None → left ≡ new.waiting.now.items

-- any text of a kind was put, in the same sink
pub record Puts {W : Type 0} (contents : W → Option (List ℕ)) (IsText : List ℕ → Type 0) (old new : Sink W) : Type 0
  where
    pub still : IsStill old new
    pub each : (text : List ℕ) → IsText text → PutsText contents text old new

-- the sink has stopped: nothing was given, and nothing waits
pub record Stops {W : Type 0} (contents : W → Option (List ℕ)) (old new : Sink W) : Type 0 where
  pub stop : Stop
  pub stopped : new.stop ≡ Some stop
  pub none : new.waiting.now.items ≡ []
  pub kept : contents new.writer.now ≡ contents old.writer.now
  pub still : IsStill old new

-- bytes that were put behind those that wait are ended, or the sink has stopped since memory for them was refused
pub record Ends {W : Type 0} (contents : W → Option (List ℕ)) (outcome : Result (Unit {0}) Memory) (old new : Sink W)
    : Type 0 where
  pub put : OnOk outcome (PutsText contents [] old new)
  pub refused : OnErr outcome (Stops contents old new)
  pub still : IsStill old new
  pub few : IsShort new
