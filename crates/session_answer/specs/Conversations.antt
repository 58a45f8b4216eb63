-- How far a session has come: which lines it has read, and what it has replied.
use Rattle.std.specs.Prelude.{◌≡◌, ℕ, ◌+◌, ◌-◌, ◌≤◌, Bool, true, false, List, [], ◌∷◌, ◌++◌, length, take, drop, Option}
use Rattle.std.specs.Io.KnownBytes.{Appends, Consumes, IsAtEnd}
use Rattle.dimacs_text.specs.GraphTexts.{HasNoGraphInside, IsGraphText}
use Rattle.dimacs_text.specs.Jobs.{Content, content_of}
use Rattle.dimacs_text.specs.Lines.{begins_comment, lines}
use Rattle.dimacs_text.specs.reader.FastArc.{HasNoFeed}
use Rattle.job_reader.specs.Taken.{TakesWhole}
use Rattle.request_reader.specs.Reading.{HasRequests, vertices_of}
use Rattle.request_reader.specs.Requests.{Outcome, AreRequests}
use Rattle.session_answer.specs.Terms.{Terms}
use Rattle.session_answer.specs.declared.conversation.Conversation.{Conversation}
use Rattle.session_answer.specs.declared.initial_graph.InitialGraph.{InitialGraph}
use Rattle.session_answer.specs.declared.session.Session.{Session}
use Rattle.session_answer.specs.Replies.{AreKept, AreReplies, HoldsGraph, IsSession, graph_after, vertices_in}

-- the graph after requests
abbrev pub graph_of : Content → List Outcome → Content
graph_of graph [] = graph
graph_of graph (outcome ∷ outcomes) = graph_of (graph_after graph outcome) outcomes

-- exactly the replies to these outcomes were given, of a graph that had grown as far, and what they leave is kept
pub record Replies (terms : Terms) (graph : Content) (outcomes : List Outcome)
    (session : Session) (before after : Option (List ℕ)) : Type 0 where
  pub text : List ℕ
  pub replied : AreReplies terms graph outcomes text
  pub written : Appends before after text
  pub holds : HoldsGraph (graph_of graph outcomes) session

-- these lines after the graph were read, of which the first has this number, and the requests in them replied to
pub record HasRepliedTo (terms : Terms) (graph : Content) (first : ℕ)
    (conversation : Conversation) (ls : List (List ℕ)) (before after : Option (List ℕ)) : Type 0 where
  pub outcomes : List Outcome
  pub requests : HasRequests conversation.requests first ls outcomes
  pub vertices : vertices_of conversation.requests ≡ graph.n
  pub replied : Replies terms graph outcomes conversation.session before after

-- what is so of every session: the reader of requests has read some lines, and knows how many vertices there are
pub record IsConsistent (conversation : Conversation) : Type 0 where
  pub kept : AreKept conversation.session
  pub first : ℕ
  pub ls : List (List ℕ)
  pub outcomes : List Outcome
  pub requests : HasRequests conversation.requests first ls outcomes
  pub vertices : vertices_of conversation.requests ≡ vertices_in conversation.session

-- the bytes of a line that was begun are kept; of a comment none is
abbrev pub IsKeptOf : Bool → List ℕ → List ℕ → Type 0
IsKeptOf false kept begun = kept ≡ begun
IsKeptOf true kept begun = (kept ≡ []) × (begins_comment begun ≡ true)

-- These bytes came after the graph: their whole lines were read, and those of a line that was begun are kept.
pub record HasHeard (terms : Terms) (graph : Content) (first : ℕ)
    (conversation : Conversation) (bytes : List ℕ) (before after : Option (List ℕ)) : Type 0 where
  pub whole : List ℕ
  pub begun : List ℕ
  pub parts : bytes ≡ whole ++ begun
  pub ended : (more : List ℕ) → lines (whole ++ more) ≡ lines whole ++ lines more
  pub no_feed : HasNoFeed begun 0 (length begun)
  pub kept : IsKeptOf conversation.in_comment conversation.unfinished.items begun
  pub replied : HasRepliedTo terms graph first conversation (lines whole) before after

-- these bytes after the graph are requests, and exactly their replies were given
pub record AreAnswered (terms : Terms) (graph : Content) (first : ℕ) (bytes : List ℕ)
    (before after : Option (List ℕ)) : Type 0 where
  pub outcomes : List Outcome
  pub requests : AreRequests graph.n first (lines bytes) outcomes
  pub replies : List ℕ
  pub replied : AreReplies terms graph outcomes replies
  pub written : Appends before after replies

-- These bytes came after the graph, and then all that was left of the text: they are requests, and exactly their replies
-- were given.
pub record HasConversed (terms : Terms) (graph : Content) (first : ℕ) (heard : List ℕ)
    (taken_from taken_to before after : Option (List ℕ)) : Type 0 where
  pub more : List ℕ
  pub whole : TakesWhole taken_from taken_to more
  pub answered : AreAnswered terms graph first (heard ++ more) before after

-- A graph was read, up to its last line and within the limit, and of the bytes that were taken those in the buffer come
-- after it. Or the input has ended. The number of the next line is one more than the number of its lines.
pub record HasInitialGraph (limit : ℕ) (initial : InitialGraph) (buffer : List ℕ) (before after : Option (List ℕ)) : Type 0 where
  pub text : List ℕ
  pub few : length text ≤ limit
  pub is_graph : IsGraphText text (content_of initial.graph)
  pub tight : HasNoGraphInside text
  pub number : initial.line ≡ length (lines text) + 1
  pub joined : initial.has_ended ≡ false → (more : List ℕ) → lines (text ++ more) ≡ lines text ++ lines more
  pub taken : Consumes before after (text ++ take (initial.end - initial.at) (drop initial.at buffer))
  pub ended : initial.has_ended ≡ true → IsAtEnd after × (initial.end ≡ initial.at)

-- the whole text was taken, it is that of a session, whose graph is within the limit, and exactly its replies were given
pub record IsAnsweredSession (limit : ℕ) (terms : Terms) (taken_from taken_to given_from given_to : Option (List ℕ)) : Type 0 where
  pub text : List ℕ
  pub whole : TakesWhole taken_from taken_to text
  pub replies : List ℕ
  pub session : IsSession terms text replies
  pub few : length session.initial ≤ limit
  pub written : Appends given_from given_to replies
