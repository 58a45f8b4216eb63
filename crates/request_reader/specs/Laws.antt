-- Laws of requests.
use Rattle.std.specs.Prelude.{◌≡◌, ◌⊎◌, ◌+◌, ℕ, List, [], ◌∷◌, ◌++◌, length, count_by, None, true}
use Rattle.std.specs.List.{AllByRecursion}
use Rattle.route_walks.specs.declared.graph.TheConstants.{MAX_VERTICES}
use Rattle.dimacs_text.specs.declared.head.SectionHead.{SectionHead}
use Rattle.dimacs_text.specs.Lines.{lines}
use Rattle.dimacs_text.specs.Forms.{readings}
use Rattle.dimacs_text.specs.Jobs.{Content, IsJobText}
use Rattle.dimacs_text.specs.AfterGraph.{asked_of, graph_of, has_question, IsJobAmong, IsPlain}
use Rattle.dimacs_text.specs.Heads.{begins_section}
use Rattle.request_reader.specs.declared.request_reader.RequestReader.{RequestReader}
use Rattle.request_reader.specs.Requests.{Outcome, whole, wrong, no_memory, AreRequests, AreShort}
use Rattle.request_reader.specs.Reading.{vertices_of, HasRequests}

-- memory was not refused there
abbrev pub IsHeard : Outcome → Type 0
IsHeard (whole line job head) = Unit {0}
IsHeard (wrong line kind) = Unit {0}
IsHeard (no_memory line) = ⊥

-- where memory is not refused, lines after a graph come to one list of outcomes
abbrev pub LinesComeToOneList : Type 0
LinesComeToOneList =
    (n first : ℕ) (all : List (List ℕ)) (a b : List Outcome)
    → AreRequests n first all a
    → AreRequests n first all b
    → AllByRecursion IsHeard a
    → AllByRecursion IsHeard b
    → a ≡ b

-- the lines are these requests at last, and then nothing more, or a request that lacks lines
abbrev pub ComeToAtLast : ℕ → ℕ → List (List ℕ) → List Outcome → Type 0
ComeToAtLast n first all outcomes =
    AreRequests n first all outcomes
    ⊎ ((line : ℕ) × AreShort n first all outcomes line)

-- what a reader has said is the front of what all lines come to, whatever more of them come
abbrev pub WhatWasSaidStays : Type 0
WhatWasSaidStays =
    (reader : RequestReader) (first : ℕ) (all : List (List ℕ)) (said : List Outcome)
    → HasRequests reader first all said
    → (more : List (List ℕ)) (outcomes : List Outcome)
    → ComeToAtLast (vertices_of reader) first (all ++ more) outcomes
    → AllByRecursion IsHeard said
    → AllByRecursion IsHeard outcomes
    → (later : List Outcome) × (outcomes ≡ said ++ later)

-- a job without added arcs that asks something is its graph, and then lines that are one request, whose head has no words
abbrev pub AJobIsOneRequest : Type 0
AJobIsOneRequest =
    (text : List ℕ) (job : Content)
    → IsJobText text job
    → job.added ≡ None
    → has_question job.question ≡ true
    → (graph : List (List ℕ))
    × (ls : List (List ℕ))
    × (lines text ≡ graph ++ ls)
    × IsJobAmong (readings MAX_VERTICES graph) (graph_of job)
    × ((first : ℕ)
    → (line : ℕ)
    × (head : SectionHead)
    × IsPlain head
    × AreRequests job.n first ls (whole line (asked_of job) head ∷ []))

-- Each request has one section line, and so has one that lacks lines at the end. Only one that the lines end in may have
-- none, and then it is refused.
abbrev pub EachRequestHasItsSectionLine : Type 0
EachRequestHasItsSectionLine =
    (n first : ℕ) (all : List (List ℕ)) (outcomes : List Outcome)
    → (AreRequests n first all outcomes
    → (length outcomes ≡ count_by begins_section all) ⊎ (length outcomes ≡ count_by begins_section all + 1))
    × ((line : ℕ)
    → AreShort n first all outcomes line
    → length outcomes + 1 ≡ count_by begins_section all)
