-- Replies one after another, and the graph that they leave.
use Rattle.std.proofs.Common.{◌≡◌, ◌∙◌, ℕ, List, [], ◌∷◌, ◌++◌, Option, Some, None, refl, sym, ap, subst, append_assoc}
use Rattle.std.proofs.lemmas.List.{append-nil}
use Rattle.std.specs.Io.KnownBytes.{Appends}
use Rattle.std.specs.Prelude.{◌↔◌, IfOk, IfSome, Result, Ok, Err}
use Rattle.answer_lines.specs.Lines.{refusal_text}
use Rattle.dimacs_text.specs.Jobs.{Content, Question, content_of, IsAddedWithin, IsQuestionWithin}
use Rattle.least_costs.specs.Network.{IsNetwork}
use Rattle.request_reader.specs.Reading.{IsAskedWithin, IsRefusable, IsRefusedLast}
use Rattle.request_reader.specs.Requests.{Outcome, no_memory}
use Rattle.request_reader.specs.declared.request_reader.RequestReader.{RequestReader}
use Rattle.request_reader.specs.declared.request.Request.{Request}
use Rattle.request_reader.specs.declared.request.Request.TheVariants.{Asked, Wrong, NoMemory}
use Rattle.job_answer.specs.declared.question.asked.Answer.{Answer}
use Rattle.job_answer.specs.Graphs.{AreGraphsFor, GrowAlike, GrowsInto, growth_of}
use Rattle.job_answer.specs.Bytes.{Writes}
use Rattle.job_answer.proofs.Facts.{along-kind, appends-then}
use Rattle.session_answer.specs.Conversations.{Replies, graph_of}
use Rattle.dimacs_text.specs.declared.head.HeadForm.{HeadForm}
use Rattle.dimacs_text.specs.declared.head.HeadForm.TheVariants.{Sources, Within, Pairs, Walk, Added, Removed, Replaced, Listed}
use Rattle.session_answer.specs.Changes.{ChangeSeen, change_by, question_by}
use Rattle.session_answer.specs.Terms.{Terms}
use Rattle.session_answer.specs.Replies.{AreReplies, HoldsGraph, HoldsKind, IsAnswerIn, IsAskedIn, IsReplyBy, IsReplyFor, IsReplyTo}
use Rattle.session_answer.specs.Replies.{IsRequestWithin, IsReplied, graph_after}
use Rattle.session_answer.specs.Replies.{out_of_memory}
use Rattle.session_answer.specs.declared.kind_graph.KindGraph.{KindGraph}
use Rattle.session_answer.specs.declared.session.Session.{Session}
use Rattle.session_answer.specs.declared.kind_graph.ReplyOutcome.{ReplyOutcome}
use Rattle.session_answer.specs.declared.kind_graph.ReplyOutcome.TheVariants as reply_outcome

-- no bytes are given
pub no_bytes : (bytes : Option (List ℕ)) → Appends bytes bytes []
no_bytes None = tt
no_bytes (Some bytes) = sym (append-nil bytes)

-- the network answers for the graph
pub graph_rows : (kind : Answer) (graph : Content) (kept : KindGraph) → IsNetwork kept.graphs.network
    → HoldsKind kind graph kept → AreGraphsFor kind graph.n graph.arcs None kept.graphs
graph_rows kind graph kept is holds = record {
  are = record {
    is = is;
    grows = subst (GrowsInto kept.graphs.network) (sym holds.alone) tt;
  };
  vertices = holds.network.vertices;
  along = along-kind kind graph.n graph.arcs kept.graphs.network holds.network;
  alike = subst (λ grown. GrowAlike (growth_of grown) None) (sym holds.alone) tt;
}

-- ---- the graph after requests

pub graph_both : (graph : Content) (some more : List Outcome)
    → graph_of graph (some ++ more) ≡ graph_of (graph_of graph some) more
graph_both graph [] more = refl
graph_both graph (outcome ∷ some) more = graph_both (graph_after graph outcome) some more

-- ---- replies to some requests, and then to more

pub replies_both : (terms : Terms) (graph : Content) (some more : List Outcome)
    (text next : List ℕ)
    → AreReplies terms graph some text → AreReplies terms (graph_of graph some) more next
    → AreReplies terms graph (some ++ more) (text ++ next)
replies_both terms graph [] more text next none replied =
    subst (λ (initial : List ℕ). AreReplies terms graph more (initial ++ next)) (sym none) replied
replies_both terms graph (outcome ∷ some) more text next (first, rest, parts, reply, later) replied = (
  first,
  rest ++ next,
  ap (λ (initial : List ℕ). initial ++ next) parts ∙ append_assoc first rest next,
  reply,
  replies_both terms (graph_after graph outcome) some more rest next later replied,
)

pub replies_then : (terms : Terms) (graph : Content) (some more : List Outcome)
    (between session : Session) (first second third : Option (List ℕ))
    → Replies terms graph some between first second
    → Replies terms (graph_of graph some) more session second third
    → Replies terms graph (some ++ more) session first third
replies_then terms graph some more between session first second third one two = record {
  text = one.text ++ two.text;
  replied = replies_both terms graph some more one.text two.text one.replied two.replied;
  written = appends-then first second third one.text two.text one.written two.written;
  holds = subst (λ left. HoldsGraph left session) (sym (graph_both graph some more)) two.holds;
}

-- ---- whether a reply was given

pub reply_written : (t : ReplyOutcome) (P Q : Type 0) → t ≡ reply_outcome.Written → IsReplied t P Q → P
reply_written t P Q is what = subst (λ x. IsReplied x P Q) is what

pub reply_not_started : (t : ReplyOutcome) (P Q : Type 0) → t ≡ reply_outcome.NotStarted → IsReplied t P Q → Q
reply_not_started t P Q is what = subst (λ x. IsReplied x P Q) is what

pub replied_weaker : (t : ReplyOutcome) (P Q R S : Type 0) → (P → R) → (Q → S) → IsReplied t P Q → IsReplied t R S
replied_weaker reply_outcome.Written P Q R S f g what = f what
replied_weaker reply_outcome.NotStarted P Q R S f g what = g what

pub if_ok : {T E : Type 0} (P Q : T → Type 0) (r : Result T E) → ((x : T) → P x → Q x) → IfOk r P → IfOk r Q
if_ok P Q (Ok x) weaker is = weaker x is
if_ok P Q (Err fault) weaker is = tt

-- what a request comes to: its reply was given, or nothing
pub replied_once : {E : Type 0} (terms : Terms) (graph : Content) (outcome : Outcome)
    (session : Session) (before after : Option (List ℕ)) (result : Result ReplyOutcome E)
    → IfOk result
    (λ t. IsReplied t (Writes (IsReplyFor terms graph outcome) before after) (Appends before after []))
    → IfOk result (λ t. IsReplied t (HoldsGraph (graph_after graph outcome) session) (HoldsGraph graph session))
    → IfOk result
    (λ t.
    IsReplied t (Replies terms graph (outcome ∷ []) session before after)
    (Replies terms graph [] session before after))
replied_once terms graph outcome session before after (Ok reply_outcome.Written) written holds = record {
  text = written.text;
  replied = (written.text, [], sym (append-nil written.text), written.is_text, refl);
  written = written.appended;
  holds = holds;
}
replied_once terms graph outcome session before after (Ok reply_outcome.NotStarted) none holds = record {
  text = [];
  replied = refl;
  written = none;
  holds = holds;
}
replied_once terms graph outcome session before after (Err fault) written holds = tt

-- the reply to a question alone
pub plain_reply : (terms : Terms) (graph : Content) (question : Question) (line : ℕ) (text : List ℕ)
    → IsAnswerIn terms graph question line text
    ↔ IsReplyTo terms graph (record { removed = None; added = None }) question line text
plain_reply terms graph question line text = (
  λ is. record {
    answer = text;
    is_answer = record { body = is.body; is_body = is.is_body; written = is.written };
    written = refl;
  },
  λ is. record {
    body = is.is_answer.body;
    is_body = is.is_answer.is_body;
    written = is.written ∙ is.is_answer.written;
  },
)

-- the reply to a request that lists no arcs
reply_same : (form : HeadForm) (terms : Terms) (graph job : Content) (line : ℕ) (text : List ℕ) → (form ≡ Listed → ⊥)
    → IsReplyTo terms graph (change_by form job) (question_by form job.question) line text
    ↔ IsReplyBy form terms graph job line text
reply_same Sources terms graph job line text other = (λ is. is, λ is. is)
reply_same Within terms graph job line text other = (λ is. is, λ is. is)
reply_same Pairs terms graph job line text other = (λ is. is, λ is. is)
reply_same Walk terms graph job line text other = (λ is. is, λ is. is)
reply_same Added terms graph job line text other = (λ is. is, λ is. is)
reply_same Removed terms graph job line text other = (λ is. is, λ is. is)
reply_same Replaced terms graph job line text other = (λ is. is, λ is. is)
reply_same Listed terms graph job line text other = absurd (other refl)

pub reply_by : (form : HeadForm) (terms given : Terms) (graph job : Content) (change : ChangeSeen) (question : Question)
    (line : ℕ) (text : List ℕ) → (form ≡ Listed → ⊥)
    → given ≡ terms → change ≡ change_by form job → question ≡ question_by form job.question
    → IsReplyTo given graph change question line text
    ↔ IsReplyBy form terms graph job line text
reply_by form terms given graph job change question line text other a b c =
    subst (λ (t : Terms). IsReplyTo t graph change question line text ↔ IsReplyBy form terms graph job line text) (sym a)
    (subst (λ (x : ChangeSeen). IsReplyTo terms graph x question line text ↔ IsReplyBy form terms graph job line text) (sym b)
    (subst
    (λ (q : Question). IsReplyTo terms graph (change_by form job) q line text ↔ IsReplyBy form terms graph job line text) (sym c)
    (reply_same form terms graph job line text other)))

-- the arcs that it adds are within the limits
pub change_within : (form : HeadForm) (n : ℕ) (job : Content) → IsAddedWithin n job.added
    → IsAddedWithin n (change_by form job).added
change_within Sources n job is = is
change_within Within n job is = is
change_within Pairs n job is = is
change_within Walk n job is = is
change_within Added n job is = is
change_within Removed n job is = is
change_within Replaced n job is = is
change_within Listed n job is = tt

-- a request that is whole can be refused in place of that
pub refusable_last : (request : Option Request) (reader : RequestReader) (first : ℕ) (all : List (List ℕ))
    (outcomes : List Outcome)
    → IsAskedIn request → IfSome request (IsRefusable reader first all outcomes)
    → IsRefusedLast reader first all outcomes
refusable_last None reader first all outcomes asked is = absurd asked
refusable_last (Some (Asked line job head)) reader first all outcomes asked is = is
refusable_last (Some (Wrong line kind)) reader first all outcomes asked is = absurd asked
refusable_last (Some (NoMemory line)) reader first all outcomes asked is = absurd asked

-- the reply that refuses it
pub refused_reply : (terms : Terms) (graph : Content) (line : ℕ) (session : Session)
    (before after : Option (List ℕ))
    → HoldsGraph graph session → Appends before after (refusal_text line out_of_memory)
    → Replies terms graph (no_memory line ∷ []) session before after
refused_reply terms graph line session before after holds reply = record {
  text = refusal_text line out_of_memory;
  replied = (refusal_text line out_of_memory, [], sym (append-nil (refusal_text line out_of_memory)), refl, refl);
  written = reply;
  holds = holds;
}

within_of : (n : ℕ) (request : Request) → IsAskedWithin n request → IsRequestWithin n request
within_of n (Asked line job head) (limits, vertices, none, bound) = (
  subst (λ k. IsQuestionWithin k (content_of job).question) vertices limits.question,
  subst (λ k. IsAddedWithin k (content_of job).added) vertices limits.added,
  bound,
)
within_of n (Wrong line what) is = tt
within_of n (NoMemory line) is = tt

pub all_within : (n : ℕ) (request : Option Request) → IfSome request (IsAskedWithin n)
    → IfSome request (IsRequestWithin n)
all_within n None is = tt
all_within n (Some request) is = within_of n request is
