-- What a session that ends with a fault has given: a prefix of its replies.
use Rattle.std.specs.Prelude.{◌≡◌, ◌⊎◌, ◌+◌, ◌-◌, ◌^◌, ◌<◌, ◌≤◌, ℕ, List, [], ◌++◌, length, Option, ⊤}
use Rattle.std.specs.Io.KnownBytes.{Consumes, IsAtEnd, Keeps}
use Rattle.dimacs_text.specs.declared.fault.LineKind.{LineKind}
use Rattle.dimacs_text.specs.declared.fault.LineKind.TheVariants.{TooFew}
use Rattle.dimacs_text.specs.declared.reader.JobReader.{JobReader}
use Rattle.dimacs_text.specs.Faults.{IsFirstFault}
use Rattle.dimacs_text.specs.GraphTexts.{HasGraph, HasNoGraphInside, IsGraphText}
use Rattle.dimacs_text.specs.Jobs.{Content, absent}
use Rattle.dimacs_text.specs.Lines.{lines}
use Rattle.dimacs_text.specs.Reading.{HasRead}
use Rattle.job_reader.specs.Taken.{TakesWhole}
use Rattle.request_reader.specs.Requests.{Outcome, AreRequestsTo, AreShort}
use Rattle.job_answer.specs.Bytes.{WritesPrefix}
use Rattle.session_answer.specs.Terms.{Terms}
use Rattle.job_answer.specs.declared.fault.Fault.{Fault}
use Rattle.job_answer.specs.declared.fault.Fault.TheVariants as fault
use Rattle.job_answer.specs.Outcome.{IsWritingFault}
use Rattle.session_answer.specs.Replies.{AreReplies, IsAnswerIn}

-- some bytes were taken
pub record TakesSome (before after : Option (List ℕ)) : Type 0 where
  pub bytes : List ℕ
  pub taken : Consumes before after bytes

-- ---- after a graph

-- The lines, of which the first has the number given, begin with some requests, and a prefix of the replies to these was
-- given and nothing else.
pub record AreRepliesCut (terms : Terms) (graph : Content) (first : ℕ)
    (all : List (List ℕ)) (before after : Option (List ℕ)) : Type 0 where
  pub outcomes : List Outcome
  pub next : ℕ
  pub end : List (List ℕ)
  pub requests : AreRequestsTo graph.n next end first all outcomes
  pub replied : WritesPrefix (AreReplies terms graph outcomes) before after

-- so it is whichever lines follow these
abbrev pub AreCutAfterLines : Terms → Content → ℕ → List (List ℕ) → Option (List ℕ) → Option (List ℕ)
    → Type 0
AreCutAfterLines terms graph first ls before after =
    (more : List (List ℕ))
    → AreRepliesCut terms graph first (ls ++ more) before after

-- so it is whichever bytes follow these
abbrev pub AreCutAfterBytes : Terms → Content → ℕ → List ℕ → Option (List ℕ) → Option (List ℕ) → Type 0
AreCutAfterBytes terms graph first bytes before after =
    (more : List ℕ)
    → AreRepliesCut terms graph first (lines (bytes ++ more)) before after

-- what may come after all that was taken: nothing, where the end was reached
abbrev pub MayFollow : Option (List ℕ) → List ℕ → Type 0
MayFollow taken_to later = IsAtEnd taken_to → later ≡ []

-- These bytes came after the graph, and then more were taken. Whatever follows, all of it begins with some requests, and
-- a prefix of the replies to these was given.
pub record IsCutConversation (terms : Terms) (graph : Content) (first : ℕ)
    (heard : List ℕ) (taken_from taken_to before after : Option (List ℕ)) : Type 0 where
  pub more : List ℕ
  pub taken : Consumes taken_from taken_to more
  pub cut : (later : List ℕ)
      → MayFollow taken_to later
      → AreRepliesCut terms graph first (lines (heard ++ (more ++ later))) before after

-- ---- a session

-- the reply to a graph, whose last line has the number given, and then those to the requests after it
pub record AreAllReplies (terms : Terms) (graph : Content) (line : ℕ) (outcomes : List Outcome)
    (text : List ℕ) : Type 0 where
  pub greeting : List ℕ
  pub greets : IsAnswerIn terms graph absent line greeting
  pub later : List ℕ
  pub replied : AreReplies terms graph outcomes later
  pub written : text ≡ greeting ++ later

-- The text begins with that of a graph, which is within the limit, and its other lines begin with some requests. A prefix
-- of the replies to the graph and to these requests was given, and nothing else.
pub record IsSessionBegun (limit : ℕ) (terms : Terms) (text : List ℕ)
    (before after : Option (List ℕ)) : Type 0 where
  pub initial : List ℕ
  pub few : length initial ≤ limit
  pub graph : Content
  pub is_graph : IsGraphText initial graph
  pub tight : HasNoGraphInside initial
  pub rest : List (List ℕ)
  pub parts : lines text ≡ lines initial ++ rest
  pub outcomes : List Outcome
  pub next : ℕ
  pub end : List (List ℕ)
  pub requests : AreRequestsTo graph.n next end (length (lines initial) + 1) rest outcomes
  pub replied : WritesPrefix (AreAllReplies terms graph (length (lines initial)) outcomes) before after

-- This text was taken. Nothing was given; or whatever follows, all of it begins with a graph and some requests, and a
-- prefix of the replies to these was given.
pub record IsCutSession (limit : ℕ) (terms : Terms) (taken_from taken_to given_from given_to : Option (List ℕ)) : Type 0 where
  pub text : List ℕ
  pub taken : Consumes taken_from taken_to text
  pub given : Keeps given_from given_to
      ⊎ ((more : List ℕ)
      → MayFollow taken_to more
      → IsSessionBegun limit terms (text ++ more) given_from given_to)

-- ---- which fault ends a session

-- more than so many bytes were taken
pub record TakesMore (limit : ℕ) (before after : Option (List ℕ)) : Type 0 where
  pub bytes : List ℕ
  pub taken : Consumes before after bytes
  pub many : limit < length bytes

-- More than the limit was taken. No line feed within the limit ends a graph, unless it is the last byte there; and a
-- reader that has read the bytes within the limit has no whole graph.
pub record HasLongGraph (limit : ℕ) (before after : Option (List ℕ)) : Type 0 where
  pub text : List ℕ
  pub rest : List ℕ
  pub taken : Consumes before after (text ++ rest)
  pub full : length text ≡ limit
  pub more : 0 < length rest
  pub inside : HasNoGraphInside text
  pub reader : JobReader
  pub read : HasRead reader text
  pub unfinished : HasGraph reader → ⊥

-- a fault of the graph's text: its first one, or memory was refused
abbrev pub IsFaultOfGraph : List ℕ → Fault → Type 0
IsFaultOfGraph text (fault.Text line kind) = IsFirstFault text line kind
IsFaultOfGraph text fault.Memory = ⊤
IsFaultOfGraph text _ = ⊥

-- Of what was taken a text within the limit comes first. Its first fault is this one, whatever follows it.
pub record IsFaultyGraph (limit : ℕ) (taken_from taken_to : Option (List ℕ)) (line : ℕ) (kind : LineKind) : Type 0 where
  pub text : List ℕ
  pub rest : List ℕ
  pub taken : Consumes taken_from taken_to (text ++ rest)
  pub few : length text ≤ limit
  pub first : (more : List ℕ) → (rest ≡ [] → MayFollow taken_to more) → IsFirstFault (text ++ more) line kind

-- All was taken. After a graph within the limit come requests, and at last one that lacks lines: the line after the last
-- is wrong.
pub record IsShortSession (limit : ℕ) (taken_from taken_to : Option (List ℕ)) (line : ℕ) (kind : LineKind) : Type 0 where
  pub text : List ℕ
  pub whole : TakesWhole taken_from taken_to text
  pub initial : List ℕ
  pub few : length initial ≤ limit
  pub graph : Content
  pub is_graph : IsGraphText initial graph
  pub tight : HasNoGraphInside initial
  pub rest : List (List ℕ)
  pub parts : lines text ≡ lines initial ++ rest
  pub outcomes : List Outcome
  pub short : AreShort graph.n (length (lines initial) + 1) rest outcomes line
  pub kind_is : kind ≡ TooFew

-- What the fault says with which a session ends. A fault of the text is that of the graph, or of the last request. Too
-- long is a graph; no limit holds for requests, but nobody reads 2^64 - 1 times.
abbrev pub EndsBy : ℕ → Option (List ℕ) → Option (List ℕ) → Fault → Type 0
EndsBy limit taken_from taken_to fault.TooLong =
    HasLongGraph limit taken_from taken_to
    ⊎ TakesMore (2 ^ 64 - 2) taken_from taken_to
EndsBy limit taken_from taken_to (fault.Text line kind) =
    IsFaultyGraph limit taken_from taken_to line kind
    ⊎ IsShortSession limit taken_from taken_to line kind
EndsBy limit taken_from taken_to fault.NoAsk = ⊥
EndsBy limit taken_from taken_to fault.NoSources = ⊥
EndsBy limit taken_from taken_to _ = ⊤

-- these lines after a graph of n vertices end with a request that lacks lines; or the system failed
abbrev pub EndsShort : ℕ → ℕ → List (List ℕ) → Fault → Type 0
EndsShort n first all (fault.Text line kind) =
    ((outcomes : List Outcome) × AreShort n first all outcomes line)
    × (kind ≡ TooFew)
EndsShort n first all fault = IsWritingFault fault

-- What the fault says of what comes after the graph, of which these bytes were read before. No limit holds there, but
-- nobody reads 2^64 - 1 times.
abbrev pub EndsAfterGraph : ℕ → ℕ → List ℕ → Option (List ℕ) → Option (List ℕ) → Fault → Type 0
EndsAfterGraph n first heard taken_from taken_to fault.TooLong = TakesMore (2 ^ 64 - 2) taken_from taken_to
EndsAfterGraph n first heard taken_from taken_to (fault.Text line kind) =
    (more : List ℕ)
    × TakesWhole taken_from taken_to more
    × EndsShort n first (lines (heard ++ more)) (fault.Text line kind)
EndsAfterGraph n first heard taken_from taken_to fault.Read = ⊤
EndsAfterGraph n first heard taken_from taken_to fault = IsWritingFault fault
