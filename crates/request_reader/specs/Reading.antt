-- What a reader of requests has read, and what came of it.
use Rattle.std.specs.Prelude.{◌≡◌, ◌+◌, ℕ, Bool, true, false, List, [], ◌∷◌, ◌++◌, length, count_by, Option, Some, None}
use Rattle.dimacs_text.specs.declared.head.SectionHead.{SectionHead}
use Rattle.dimacs_text.specs.declared.request_draft.RequestDraft.{RequestDraft}
use Rattle.dimacs_text.specs.Jobs.{content_of, IsWithinLimits}
use Rattle.dimacs_text.specs.AfterGraph.{head_among, IsHeadWithin}
use Rattle.dimacs_text.specs.Heads.{begins_section}
use Rattle.dimacs_text.specs.RequestDrafts.{HasReadAfter, is_whole}
use Rattle.request_reader.specs.declared.request.LineEvents.{LineEvents}
use Rattle.request_reader.specs.declared.request.Request.{Request}
use Rattle.request_reader.specs.declared.request.Request.TheVariants.{Asked, Wrong, NoMemory}
use Rattle.request_reader.specs.declared.request_reader.RequestReader.{RequestReader}
use Rattle.request_reader.specs.Requests.{Outcome, whole, wrong, no_memory, told, IsUnanswered, IsCut, IsRequest}
use Rattle.request_reader.specs.Requests.{AreRequestsTo}

abbrev pub outcome_of : Request → Outcome
outcome_of (Asked line job head) = whole line (content_of job) head
outcome_of (Wrong line kind) = wrong line kind
outcome_of (NoMemory line) = no_memory line

abbrev pub outcomes_in : Option Request → List Outcome
outcomes_in None = []
outcomes_in (Some request) = outcome_of request ∷ []

-- what came of a line, in order
abbrev pub outcomes_of : LineEvents → List Outcome
outcomes_of events = outcomes_in events.ended ++ outcomes_in events.completed

-- to what vertices count
abbrev pub vertices_of : RequestReader → ℕ
vertices_of reader = reader.vertices

-- a job that a request asks keeps the limits of jobs, has the vertices of the graph, and no arcs; a bound is a cost
abbrev pub IsAskedWithin : ℕ → Request → Type 0
IsAskedWithin n (Asked line job head) =
    IsWithinLimits (content_of job)
    × (job.n ≡ n)
    × (job.arcs.items ≡ [])
    × IsHeadWithin head
IsAskedWithin n (Wrong line kind) = Unit {0}
IsAskedWithin n (NoMemory line) = Unit {0}

-- how many section lines of the request have come
abbrev pub section_count : Bool → ℕ
section_count true = 1
section_count false = 0

-- Of all lines the last are those of the request that the reader is in, which is neither whole nor refused. The
-- lines before are requests, whatever comes after the next lines.
pub record IsReading (n : ℕ) (draft : RequestDraft) (has_section : Bool) (head : Option SectionHead) (line first : ℕ)
    (all next : List (List ℕ)) (outcomes : List Outcome) : Type 0 where
  pub done : List (List ℕ)
  pub ls : List (List ℕ)
  pub parts : all ≡ done ++ ls
  pub requests : (more : List (List ℕ))
      → AreRequestsTo n (first + length done) (ls ++ (next ++ more)) first (all ++ (next ++ more)) outcomes
  pub read : HasReadAfter n ls draft
  pub lacking : is_whole draft ≡ false
  pub unanswered : IsUnanswered n ls
  pub sections : count_by begins_section ls ≡ section_count has_section
  pub head_is : head ≡ head_among ls
  pub number : line ≡ told (first + length all)

-- Of all lines the last are those of a request that was refused, wherever it ends.
pub record IsPassing (n : ℕ) (has_section : Bool) (line first : ℕ) (all next : List (List ℕ)) (outcomes : List Outcome)
    : Type 0 where
  pub done : List (List ℕ)
  pub ls : List (List ℕ)
  pub parts : all ≡ done ++ ls
  pub before : List Outcome
  pub outcome : Outcome
  pub last : outcomes ≡ before ++ outcome ∷ []
  pub requests : (more : List (List ℕ))
      → AreRequestsTo n (first + length done) (ls ++ (next ++ more)) first (all ++ (next ++ more)) before
  pub refused : (more rest : List (List ℕ))
      → IsCut (ls ++ more) rest
      → IsRequest n (first + length done) (ls ++ more) rest outcome
  pub sections : count_by begins_section ls ≡ section_count has_section
  pub number : line ≡ told (first + length all)

abbrev pub IsAmong : Bool → RequestReader → ℕ → List (List ℕ) → List (List ℕ) → List Outcome → Type 0
IsAmong false reader first all next outcomes =
    IsReading reader.vertices reader.draft reader.has_section reader.head reader.line first all next outcomes
IsAmong true reader first all next outcomes =
    IsPassing reader.vertices reader.has_section reader.line first all next outcomes

-- all lines, of which the first has the number given, were read, and came to this; the next lines are known
abbrev pub HasReadBefore : RequestReader → ℕ → List (List ℕ) → List (List ℕ) → List Outcome → Type 0
HasReadBefore reader first all next outcomes = IsAmong reader.is_refused reader first all next outcomes

-- all lines, of which the first has the number given, were read, and came to this
abbrev pub HasRequests : RequestReader → ℕ → List (List ℕ) → List Outcome → Type 0
HasRequests reader first all outcomes = HasReadBefore reader first all [] outcomes

-- the number of the line with which a request was whole last
abbrev pub last_of : RequestReader → ℕ
last_of reader = reader.last

-- all lines were read and come to this, and to a refusal for want of memory at the line with which the last request was
-- whole
abbrev pub IsRefusedLast : RequestReader → ℕ → List (List ℕ) → List Outcome → Type 0
IsRefusedLast reader first all outcomes =
    IsPassing reader.vertices reader.had_section reader.line first all [] (outcomes ++ no_memory reader.last ∷ [])

-- if the request is whole, it can be refused in place of that
abbrev pub IsRefusable : RequestReader → ℕ → List (List ℕ) → List Outcome → Request → Type 0
IsRefusable reader first all outcomes (Asked line job head) = IsRefusedLast reader first all outcomes
IsRefusable reader first all outcomes (Wrong line kind) = Unit {0}
IsRefusable reader first all outcomes (NoMemory line) = Unit {0}
