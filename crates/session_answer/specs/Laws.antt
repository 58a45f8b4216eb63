-- Laws of sessions: each has replies, and only one text of them.
use Rattle.std.specs.Prelude.{ℕ, List, [], ◌∷◌, Option, ⊤}
use Rattle.dimacs_text.specs.Jobs.{Content, IsQuestionWithin, IsWithinLimits}
use Rattle.request_reader.specs.Requests.{Outcome, whole, wrong, no_memory}
use Rattle.job_answer.specs.AnswerText.{IsOneText}
use Rattle.job_answer.specs.Bytes.{GivesPrefix, WritesPrefix}
use Rattle.session_answer.specs.Terms.{Terms}
use Rattle.session_answer.specs.Replies.{graph_after}
use Rattle.session_answer.specs.Cuts.{AreAllReplies}

-- what a whole request asks for is within the limits of a graph of n vertices
abbrev pub IsOutcomeWithin : ℕ → Outcome → Type 0
IsOutcomeWithin n (whole line job head) = IsQuestionWithin n job.question
IsOutcomeWithin n (wrong line what) = ⊤
IsOutcomeWithin n (no_memory line) = ⊤

-- the graph is within the limits at first and after each request, and so is each request
abbrev pub AreWithin : Content → List Outcome → Type 0
AreWithin graph [] = IsWithinLimits graph
AreWithin graph (outcome ∷ outcomes) =
    IsWithinLimits graph
    × IsOutcomeWithin graph.n outcome
    × AreWithin (graph_after graph outcome) outcomes

-- a graph and requests have replies, whatever the session asks for
abbrev pub SessionsHaveReplies : Type 0
SessionsHaveReplies =
    (terms : Terms) (graph : Content) (line : ℕ) (outcomes : List Outcome)
    → AreWithin graph outcomes
    → (text : List ℕ) × AreAllReplies terms graph line outcomes text

-- they have only one text of replies
abbrev pub RepliesAreUnique : Type 0
RepliesAreUnique =
    (terms : Terms) (graph : Content) (line : ℕ) (outcomes : List Outcome)
    → IsOneText (AreAllReplies terms graph line outcomes)

-- If a prefix of the replies was given, as at each fault of a session, there are such replies: it is a prefix of them,
-- and there are no others.
abbrev pub CutSessionsBeginTheirReplies : Type 0
CutSessionsBeginTheirReplies =
    (terms : Terms) (graph : Content) (line : ℕ) (outcomes : List Outcome) (before after : Option (List ℕ))
    → AreWithin graph outcomes
    → WritesPrefix (AreAllReplies terms graph line outcomes) before after
    → (replies : List ℕ)
    × AreAllReplies terms graph line outcomes replies
    × GivesPrefix before after replies
    × IsOneText (AreAllReplies terms graph line outcomes)
