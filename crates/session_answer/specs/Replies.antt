-- The replies to the requests that follow a graph, and to the graph.
use Rattle.std.specs.Prelude.{◌≡◌, ℕ, ◌+◌, Bool, true, false, List, [], ◌∷◌, ◌++◌, length, filter, flat_map}
use Rattle.std.specs.Prelude.{Option, Some, None, codes, ⊤, IfSome}
use Rattle.route_walks.specs.declared.graph.ArcRec.{ArcRec}
use Rattle.answer_lines.specs.Lines.{arc_text, ready_text, refusal_text}
use Rattle.dimacs_text.specs.AfterGraph.{IsHeadWithin}
use Rattle.dimacs_text.specs.Faults.{words_of}
use Rattle.dimacs_text.specs.declared.head.HeadForm.{HeadForm}
use Rattle.dimacs_text.specs.declared.head.HeadForm.TheVariants as form
use Rattle.dimacs_text.specs.Jobs.{Content, Question, absent, content_of}
use Rattle.dimacs_text.specs.Jobs.{IsAddedWithin, IsQuestionWithin}
use Rattle.dimacs_text.specs.GraphTexts.{HasNoGraphInside, IsGraphText}
use Rattle.dimacs_text.specs.Lines.{lines}
use Rattle.request_reader.specs.Requests.{Outcome, whole, wrong, no_memory, AreRequests}
use Rattle.request_reader.specs.declared.request.Request.{Request}
use Rattle.request_reader.specs.declared.request.Request.TheVariants as request
use Rattle.job_answer.specs.declared.question.asked.Answer.{Answer}
use Rattle.job_answer.specs.declared.question.asked.Answer.TheVariants as answer
use Rattle.job_answer.specs.declared.question.asked.Lines.{Lines}
use Rattle.job_answer.specs.Graphs.{AreGraphs, cost_for}
use Rattle.csr_graph.specs.Changes.{leads_between}
use Rattle.least_costs.specs.Network.{HasArcs, IsNetworkOf}
use Rattle.job_answer.specs.Outcome.{is_unasked}
use Rattle.job_answer.specs.Within.{IsAnswerTextBy}
use Rattle.session_answer.specs.Changes.{ChangeSeen, change_by, change_text, changed_by, pairs_of}
use Rattle.session_answer.specs.declared.kind_graph.KindGraph.{KindGraph}
use Rattle.session_answer.specs.declared.session.Session.{Session}
use Rattle.session_answer.specs.declared.kind_graph.ReplyOutcome.{ReplyOutcome}
use Rattle.session_answer.specs.declared.kind_graph.ReplyOutcome.TheVariants as reply_outcome
use Rattle.session_answer.specs.Terms.{Terms, lines_for, terms_by}

-- ---- the answer to a question

-- the job of a graph and a question
abbrev pub job_of : Content → Question → Content
job_of graph question = record { n = graph.n; arcs = graph.arcs; question = question; added = None }

-- the answer of a job, and nothing if it asks for nothing
abbrev pub IsBodyIf : Bool → Answer → Lines → Content → List ℕ → Type 0
IsBodyIf true kind lines job text = text ≡ []
IsBodyIf false kind lines job text = IsAnswerTextBy kind lines job text

-- the answer to a question in a graph, and nothing where there is no question
abbrev pub IsBodyIn : Terms → Content → Question → List ℕ → Type 0
IsBodyIn terms graph question text =
    IsBodyIf (is_unasked terms.kind question) terms.kind (lines_for terms.lines question) (job_of graph question) text

-- the same, and then how large the graph is, and the number of the line that is answered
pub record IsAnswerIn (terms : Terms) (graph : Content) (question : Question) (line : ℕ) (text : List ℕ) : Type 0 where
  pub body : List ℕ
  pub is_body : IsBodyIn terms graph question body
  pub written : text ≡ body ++ ready_text graph.n (length graph.arcs) line

-- ---- the reply to a request that is whole

-- How a request changes the graph, and the answer to its question in the graph after it.
pub record IsReplyTo (terms : Terms) (graph : Content) (change : ChangeSeen) (question : Question) (line : ℕ)
    (text : List ℕ) : Type 0 where
  pub answer : List ℕ
  pub is_answer : IsAnswerIn terms (changed_by graph change) question line answer
  pub written : text ≡ change_text change graph.arcs ++ answer

-- the lines of the arcs that lead between a pair
abbrev pub between_text : List ArcRec → ℕ × ℕ → List ℕ
between_text arcs pair = flat_map arc_text (filter (λ arc. leads_between arc pair) arcs)

-- the arcs between pairs, and then how large the graph is, and the number of the line that is answered
abbrev pub listing_text : Content → List (ℕ × ℕ) → ℕ → List ℕ
listing_text graph pairs line =
    flat_map (between_text graph.arcs) pairs ++ ready_text graph.n (length graph.arcs) line

-- the reply to a request of a form, whose last line has the number given
abbrev pub IsReplyBy : HeadForm → Terms → Content → Content → ℕ → List ℕ → Type 0
IsReplyBy form.Sources terms graph job line text = IsReplyTo terms graph (change_by form.Sources job) job.question line text
IsReplyBy form.Within terms graph job line text = IsReplyTo terms graph (change_by form.Within job) job.question line text
IsReplyBy form.Pairs terms graph job line text = IsReplyTo terms graph (change_by form.Pairs job) job.question line text
IsReplyBy form.Walk terms graph job line text = IsReplyTo terms graph (change_by form.Walk job) job.question line text
IsReplyBy form.Added terms graph job line text = IsReplyTo terms graph (change_by form.Added job) job.question line text
IsReplyBy form.Removed terms graph job line text = IsReplyTo terms graph (change_by form.Removed job) absent line text
IsReplyBy form.Replaced terms graph job line text = IsReplyTo terms graph (change_by form.Replaced job) job.question line text
IsReplyBy form.Listed terms graph job line text = text ≡ listing_text graph (pairs_of job.question) line

-- ---- the reply to any request, and the graph after it

-- what is said where memory is refused
abbrev pub out_of_memory : List ℕ
out_of_memory = codes "out of memory"

-- A request that is whole is answered, by the number of its last line. One that is wrong is refused in a line, and so is
-- one for which memory was refused, while it was read or for its reply.
abbrev pub IsReplyFor : Terms → Content → Outcome → List ℕ → Type 0
IsReplyFor terms graph (whole line job head) text = IsReplyBy head.form (terms_by head terms) graph job line text
IsReplyFor terms graph (wrong line what) text = text ≡ refusal_text line (words_of what)
IsReplyFor terms graph (no_memory line) text = text ≡ refusal_text line out_of_memory

-- the graph after a request
abbrev pub graph_after : Content → Outcome → Content
graph_after graph (whole line job head) = changed_by graph (change_by head.form job)
graph_after graph (wrong line what) = graph
graph_after graph (no_memory line) = graph

-- what a request asks for and adds is within the limits of a graph of n vertices, and a bound is a cost
abbrev pub IsRequestWithin : ℕ → Request → Type 0
IsRequestWithin n (request.Asked line job head) =
    IsQuestionWithin n (content_of job).question
    × IsAddedWithin n (content_of job).added
    × IsHeadWithin head
IsRequestWithin n (request.Wrong line what) = ⊤
IsRequestWithin n (request.NoMemory line) = ⊤

-- what is so where a reply was given whole, and what where nothing was given nor done
abbrev pub IsReplied : ReplyOutcome → Type 0 → Type 0 → Type 0
IsReplied reply_outcome.Written p q = p
IsReplied reply_outcome.NotStarted p q = q

-- the request is whole
abbrev pub IsAsked : Request → Type 0
IsAsked (request.Asked line job head) = ⊤
IsAsked (request.Wrong line what) = ⊥
IsAsked (request.NoMemory line) = ⊥

abbrev pub IsAskedIn : Option Request → Type 0
IsAskedIn None = ⊥
IsAskedIn (Some request) = IsAsked request

-- ---- what is kept of a graph

-- the network of a kind is that of the graph, and its arcs are counted
pub record HoldsKind (kind : Answer) (graph : Content) (kept : KindGraph) : Type 0 where
  pub network : IsNetworkOf graph.n (cost_for kind) graph.arcs kept.graphs.network
  pub alone : kept.graphs.grown ≡ None
  pub count : kept.arcs ≡ length graph.arcs

-- the network of weights, and that of another kind if one is kept
pub record HoldsGraph (graph : Content) (session : Session) : Type 0 where
  pub weights : HoldsKind answer.Distances graph session.weights
  pub arcs : HasArcs graph.arcs session.weights.graphs.network
  pub other : IfSome session.other (λ other. HoldsKind other.answer graph other.graph)

-- it has as many vertices
pub record IsBeside (weights kept : KindGraph) : Type 0 where
  pub are : AreGraphs kept.graphs
  pub vertices : kept.graphs.network.n ≡ weights.graphs.network.n

-- what is so of every session
pub record AreKept (session : Session) : Type 0 where
  pub weights : AreGraphs session.weights.graphs
  pub other : IfSome session.other (λ other. IsBeside session.weights other.graph)

-- the number of its vertices
abbrev pub vertices_in : Session → ℕ
vertices_in session = session.weights.graphs.network.n

-- ---- all of them

-- the replies to requests in order, each in the graph that those before it leave
abbrev pub AreReplies : Terms → Content → List Outcome → List ℕ → Type 0
AreReplies terms graph [] text = text ≡ []
AreReplies terms graph (outcome ∷ outcomes) text =
    (first : List ℕ)
    × (rest : List ℕ)
    × (text ≡ first ++ rest)
    × IsReplyFor terms graph outcome first
    × AreReplies terms (graph_after graph outcome) outcomes rest

-- The text is that of a graph and then of requests, and these are the replies to the graph and to each of them. That to
-- the graph names its last line, which is that of its last arc, or its problem line.
pub record IsSession (terms : Terms) (text replies : List ℕ) : Type 0 where
  pub initial : List ℕ
  pub graph : Content
  pub is_graph : IsGraphText initial graph
  pub tight : HasNoGraphInside initial
  pub rest : List (List ℕ)
  pub parts : lines text ≡ lines initial ++ rest
  pub outcomes : List Outcome
  pub requests : AreRequests graph.n (length (lines initial) + 1) rest outcomes
  pub greeting : List ℕ
  pub greets : IsAnswerIn terms graph absent (length (lines initial)) greeting
  pub later : List ℕ
  pub replied : AreReplies terms graph outcomes later
  pub written : replies ≡ greeting ++ later
