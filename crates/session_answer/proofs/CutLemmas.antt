-- What was given when a fault cuts a session short: a prefix of its replies.
use Rattle.std.proofs.Common.{◌≡◌, ◌∙◌, ℕ, Bool, true, false, List, [], ◌∷◌, ◌++◌, Option, refl, sym, ap, subst, append_assoc}
use Rattle.std.proofs.Common.{length, take, drop, take-append-drop}
use Rattle.std.proofs.lemmas.List.{append-nil}
use Rattle.std.specs.Prelude.{Result, Ok, Err, OnErr}
use Rattle.std.specs.Io.KnownBytes.{Appends}
use Rattle.answer_lines.specs.Lines.{ready_text, refusal_text}
use Rattle.dimacs_text.specs.Jobs.{Content, Question, absent}
use Rattle.dimacs_text.specs.Lines.{lines}
use Rattle.request_reader.proofs.Facts.{begins_with}
use Rattle.request_reader.specs.Reading.{HasRequests, vertices_of}
use Rattle.request_reader.specs.Requests.{Outcome, whole, wrong, no_memory, AreRequestsTo}
use Rattle.request_reader.specs.declared.request_reader.RequestReader.{RequestReader}
use Rattle.job_answer.proofs.Facts.{appends-then}
use Rattle.job_answer.specs.AnswerText.{IsOneText}
use Rattle.job_answer.specs.Bytes.{GivesPrefix, IsPrefix, WritesPrefix}
use Rattle.job_answer.specs.Outcome.{is_unasked}
use Rattle.job_answer.specs.Within.{AnswerTextsByLinesAreUnique}
use Rattle.session_answer.specs.Conversations.{HasHeard, HasRepliedTo, Replies, graph_of}
use Rattle.session_answer.specs.Cuts.{AreCutAfterBytes, AreCutAfterLines, AreRepliesCut}
use Rattle.session_answer.specs.Terms.{Terms, lines_for, terms_by}
use Rattle.session_answer.specs.Replies.{AreReplies, IsAnswerIn, IsBodyIf, IsBodyIn, IsReplyBy, IsReplyFor, IsReplyTo}
use Rattle.session_answer.specs.Replies.{graph_after, job_of, out_of_memory}
use Rattle.dimacs_text.specs.declared.head.HeadForm.{HeadForm}
use Rattle.dimacs_text.specs.declared.head.HeadForm.TheVariants.{Sources, Within, Pairs, Walk, Added, Removed, Replaced, Listed}
use Rattle.session_answer.specs.Changes.{ChangeSeen, change_by, change_text, changed_by}
use Rattle.session_answer.specs.declared.conversation.Conversation.{Conversation}
use Rattle.session_answer.specs.declared.session.Session.{Session}
use Rattle.session_answer.proofs.ReplyLemmas.{no_bytes}

pub on_err : {T E P : Type 0} → P → (r : Result T E) → OnErr r P
on_err p (Ok x) = tt
on_err p (Err y) = p

-- ---- prefixes of what is written

pub none_given : (IsText : List ℕ → Type 0) (same : Option (List ℕ)) → WritesPrefix IsText same same
none_given IsText same = record { given = []; is_prefix = λ text is. (text, refl); appended = no_bytes same }

pub no_prefix : (bytes : List ℕ) (same : Option (List ℕ)) → GivesPrefix same same bytes
no_prefix bytes same = record { given = []; is_prefix = (bytes, refl); appended = no_bytes same }

-- a prefix of these bytes, which are the only text
pub only_cut : (bytes only : List ℕ) (before after : Option (List ℕ)) → bytes ≡ only → GivesPrefix before after bytes
    → WritesPrefix (λ text. text ≡ only) before after
only_cut bytes only before after same cut = record {
  given = cut.given;
  is_prefix = λ text is. subst (λ (all : List ℕ). IsPrefix cut.given all) (same ∙ sym is) cut.is_prefix;
  appended = cut.appended;
}

-- a prefix of a text of a kind of which there is one
pub text_cut : (IsText : List ℕ → Type 0) → IsOneText IsText → (bytes : List ℕ) (before after : Option (List ℕ))
    → IsText bytes → GivesPrefix before after bytes
    → WritesPrefix IsText before after
text_cut IsText unique bytes before after is_bytes cut = record {
  given = cut.given;
  is_prefix = λ text is.
      subst (λ (all : List ℕ). IsPrefix cut.given all) (unique bytes text is_bytes is) cut.is_prefix;
  appended = cut.appended;
}

-- where nothing was given, a prefix of any text was
pub nothing_cut : (IsText : List ℕ → Type 0) (terms : Terms) (graph : Content)
    (session : Session) (before after : Option (List ℕ))
    → Replies terms graph [] session before after
    → WritesPrefix IsText before after
nothing_cut IsText terms graph session before after is = record {
  given = [];
  is_prefix = λ text one. (text, refl);
  appended = subst (λ (text : List ℕ). Appends before after text) is.replied is.written;
}

-- a prefix of the first part of a text is one of the text
pub first_cut : (IsFirst IsWhole : List ℕ → Type 0) (before after : Option (List ℕ))
    → ((text : List ℕ) → IsWhole text
    → (first : List ℕ) × (rest : List ℕ) × IsFirst first × (text ≡ first ++ rest))
    → WritesPrefix IsFirst before after
    → WritesPrefix IsWhole before after
first_cut IsFirst IsWhole before after split cut = record {
  given = cut.given;
  is_prefix = λ text is.
      let parts = split text is in
      let prefix = cut.is_prefix parts.0 parts.2 in (
        prefix.0 ++ parts.1,
        parts.3
            ∙ ap (λ (initial : List ℕ). initial ++ parts.1) prefix.1
            ∙ append_assoc cut.given prefix.0 parts.1,
      );
  appended = cut.appended;
}

-- the first part of a text was given whole, and then a prefix of the second
pub second_cut : (IsSecond IsWhole : List ℕ → Type 0) (first : List ℕ) (before middle after : Option (List ℕ))
    → ((text : List ℕ) → IsWhole text → (second : List ℕ) × IsSecond second × (text ≡ first ++ second))
    → Appends before middle first
    → WritesPrefix IsSecond middle after
    → WritesPrefix IsWhole before after
second_cut IsSecond IsWhole first before middle after split one cut = record {
  given = first ++ cut.given;
  is_prefix = λ text is.
      let parts = split text is in
      let prefix = cut.is_prefix parts.0 parts.1 in (
        prefix.0,
        parts.2
            ∙ ap (λ (rest : List ℕ). first ++ rest) prefix.1
            ∙ sym (append_assoc first cut.given prefix.0),
      );
  appended = appends-then before middle after first cut.given one cut.appended;
}

-- ---- there is one text of each reply

module _ (law : AnswerTextsByLinesAreUnique) (terms : Terms) where
  one_body : (graph : Content) (question : Question)
      → IsOneText (IsBodyIn terms graph question)
  one_body graph question = by_asked (is_unasked terms.kind question)
    where
      by_asked : (unasked : Bool)
          → IsOneText (IsBodyIf unasked terms.kind (lines_for terms.lines question) (job_of graph question))
      by_asked true first second one two = one ∙ sym two
      by_asked false first second one two =
          law terms.kind (lines_for terms.lines question) (job_of graph question) first second one two

  pub one_answer : (graph : Content) (question : Question) (line : ℕ)
      → IsOneText (IsAnswerIn terms graph question line)
  one_answer graph question line first second one two =
      one.written
      ∙ ap (λ (body : List ℕ). body ++ ready_text graph.n (length graph.arcs) line)
      (one_body graph question one.body two.body one.is_body two.is_body)
      ∙ sym two.written

  one_reply : (graph : Content) (change : ChangeSeen) (question : Question) (line : ℕ)
      → IsOneText (IsReplyTo terms graph change question line)
  one_reply graph change question line first second one two =
      one.written
      ∙ ap (λ (answer : List ℕ). change_text change graph.arcs ++ answer)
      (one_answer (changed_by graph change) question line one.answer two.answer one.is_answer two.is_answer)
      ∙ sym two.written

one_reply_by : AnswerTextsByLinesAreUnique → (form : HeadForm) (terms : Terms) (graph job : Content) (line : ℕ)
    → IsOneText (IsReplyBy form terms graph job line)
one_reply_by law Sources terms graph job line = one_reply law terms graph (change_by Sources job) job.question line
one_reply_by law Within terms graph job line = one_reply law terms graph (change_by Within job) job.question line
one_reply_by law Pairs terms graph job line = one_reply law terms graph (change_by Pairs job) job.question line
one_reply_by law Walk terms graph job line = one_reply law terms graph (change_by Walk job) job.question line
one_reply_by law Added terms graph job line = one_reply law terms graph (change_by Added job) job.question line
one_reply_by law Removed terms graph job line = one_reply law terms graph (change_by Removed job) absent line
one_reply_by law Replaced terms graph job line = one_reply law terms graph (change_by Replaced job) job.question line
one_reply_by law Listed terms graph job line = λ first second one two. one ∙ sym two

module _ (law : AnswerTextsByLinesAreUnique) (terms : Terms) where
  one_reply_for : (graph : Content) (outcome : Outcome)
      → IsOneText (IsReplyFor terms graph outcome)
  one_reply_for graph (whole line job head) first second one two =
      one_reply_by law head.form (terms_by head terms) graph job line first second one two
  one_reply_for graph (wrong line what) first second one two = one ∙ sym two
  one_reply_for graph (no_memory line) first second one two = one ∙ sym two

  pub one_of_all : (graph : Content) (outcomes : List Outcome)
      → IsOneText (AreReplies terms graph outcomes)
  one_of_all graph [] first second one two = one ∙ sym two
  one_of_all graph (outcome ∷ outcomes) first second one two =
      one.2
      ∙ ap (λ (reply : List ℕ). reply ++ one.1)
      (one_reply_for graph outcome one.0 two.0 one.3 two.3)
      ∙ ap (λ (rest : List ℕ). two.0 ++ rest)
      (one_of_all (graph_after graph outcome) outcomes one.1 two.1 one.4 two.4)
      ∙ sym two.2

  -- ---- an answer

  -- the answer was given whole, and then a prefix of how large the graph is
  pub ready_cut : (graph : Content) (question : Question) (line : ℕ) (body : List ℕ)
      (before middle after : Option (List ℕ))
      → IsBodyIn terms graph question body
      → Appends before middle body
      → WritesPrefix (λ text. text ≡ ready_text graph.n (length graph.arcs) line) middle after
      → WritesPrefix (IsAnswerIn terms graph question line) before after
  ready_cut graph question line body before middle after is_body one cut =
      second_cut (λ text. text ≡ ready_text graph.n (length graph.arcs) line) (IsAnswerIn terms graph question line) body
      before middle after
      (λ text is. (
        ready_text graph.n (length graph.arcs) line,
        refl,
        is.written
            ∙ ap (λ (some : List ℕ). some ++ ready_text graph.n (length graph.arcs) line)
            (one_body law terms graph question is.body body is.is_body is_body),
      ))
      one cut

  -- ---- replies

  split_replies : (graph : Content) (some more : List Outcome) (text : List ℕ)
      → AreReplies terms graph (some ++ more) text
      → (first : List ℕ)
      × (rest : List ℕ)
      × AreReplies terms graph some first
      × AreReplies terms (graph_of graph some) more rest
      × (text ≡ first ++ rest)
  split_replies graph [] more text is = ([], text, refl, is, refl)
  split_replies graph (outcome ∷ some) more text is =
      let parts = split_replies (graph_after graph outcome) some more is.1 is.4 in (
        is.0 ++ parts.0,
        parts.1,
        (is.0, parts.0, refl, is.3, parts.2),
        parts.3,
        is.2
            ∙ ap (λ (later : List ℕ). is.0 ++ later) parts.4
            ∙ sym (append_assoc is.0 parts.0 parts.1),
      )

  -- a prefix of the line that refuses a request
  pub refusal_cut : (graph : Content) (line : ℕ) (before after : Option (List ℕ))
      → GivesPrefix before after (refusal_text line out_of_memory)
      → WritesPrefix (AreReplies terms graph (no_memory line ∷ [])) before after
  refusal_cut graph line before after cut =
      first_cut (λ text. text ≡ refusal_text line out_of_memory)
      (AreReplies terms graph (no_memory line ∷ [])) before after
      (λ text is. (is.0, is.1, is.3, is.2))
      (only_cut (refusal_text line out_of_memory) (refusal_text line out_of_memory) before after refl cut)

  -- a prefix of the first replies is one of all
  pub front_cut : (graph : Content) (some more : List Outcome) (before after : Option (List ℕ))
      → WritesPrefix (AreReplies terms graph some) before after
      → WritesPrefix (AreReplies terms graph (some ++ more)) before after
  front_cut graph some more before after cut =
      first_cut (AreReplies terms graph some) (AreReplies terms graph (some ++ more)) before after
      (λ text is.
      let parts = split_replies graph some more text is in
      (parts.0, parts.1, parts.2, parts.4))
      cut

  -- the first replies were given whole, and then a prefix of the next ones
  pub after_cut : (graph : Content) (some more : List Outcome) (session : Session)
      (before middle after : Option (List ℕ))
      → Replies terms graph some session before middle
      → WritesPrefix (AreReplies terms (graph_of graph some) more) middle after
      → WritesPrefix (AreReplies terms graph (some ++ more)) before after
  after_cut graph some more session before middle after one cut =
      second_cut (AreReplies terms (graph_of graph some) more)
      (AreReplies terms graph (some ++ more)) one.text before middle after
      (λ text is.
      let parts = split_replies graph some more text is in (
        parts.1,
        parts.3,
        parts.4
            ∙ ap (λ (initial : List ℕ). initial ++ parts.1)
            (one_of_all graph some parts.0 one.text parts.2 one.replied),
      ))
      one.written cut

  -- whole replies are a prefix of themselves
  whole_cut : (graph : Content) (outcomes : List Outcome) (session : Session)
      (before after : Option (List ℕ))
      → Replies terms graph outcomes session before after
      → WritesPrefix (AreReplies terms graph outcomes) before after
  whole_cut graph outcomes session before after is = record {
    given = is.text;
    is_prefix = λ text other.
        ([], one_of_all graph outcomes text is.text other is.replied ∙ sym (append-nil is.text));
    appended = is.written;
  }

  -- ---- lines and bytes

  -- the requests that a reader tells of are those that all lines begin with
  pub cut_after_lines : (graph : Content) (first : ℕ) (reader : RequestReader) (ls : List (List ℕ))
      (outcomes : List Outcome) (before after : Option (List ℕ))
      → HasRequests reader first ls outcomes
      → vertices_of reader ≡ graph.n
      → WritesPrefix (AreReplies terms graph outcomes) before after
      → AreCutAfterLines terms graph first ls before after
  cut_after_lines graph first reader ls outcomes before after requests vertices cut more =
      let begins = begins_with reader first ls outcomes requests more in
      record {
        outcomes = outcomes;
        next = begins.0;
        end = begins.1;
        requests =
            subst (λ n. AreRequestsTo n begins.0 begins.1 first (ls ++ more) outcomes) vertices begins.2;
        replied = cut;
      }

  pub replied_cut : (graph : Content) (first : ℕ) (conversation : Conversation) (ls : List (List ℕ))
      (before after : Option (List ℕ))
      → HasRepliedTo terms graph first conversation ls before after
      → AreCutAfterLines terms graph first ls before after
  replied_cut graph first conversation ls before after is =
      cut_after_lines graph first conversation.requests ls is.outcomes before after is.requests is.vertices
      (whole_cut graph is.outcomes conversation.session before after is.replied)

  pub heard_cut : (graph : Content) (first : ℕ) (conversation : Conversation) (heard : List ℕ)
      (before after : Option (List ℕ))
      → HasHeard terms graph first conversation heard before after
      → AreCutAfterBytes terms graph first heard before after
  heard_cut graph first conversation heard before after is more =
      let kept = is.begun in
      subst (λ (ls : List (List ℕ)). AreRepliesCut terms graph first ls before after)
      (sym
      (ap (λ (bytes : List ℕ). lines (bytes ++ more)) is.parts
      ∙ ap (λ (bytes : List ℕ). lines bytes) (append_assoc is.whole kept more)
      ∙ is.ended (kept ++ more)))
      (replied_cut graph first conversation (lines is.whole) before after is.replied (lines (kept ++ more)))

-- ---- more lines and bytes

-- no line follows
pub cut_here : (terms : Terms) (graph : Content) (first : ℕ) (ls all : List (List ℕ))
    (before after : Option (List ℕ))
    → ls ≡ all
    → AreCutAfterLines terms graph first ls before after
    → AreRepliesCut terms graph first all before after
cut_here terms graph first ls all before after same cut =
    subst (λ (some : List (List ℕ)). AreRepliesCut terms graph first some before after)
    (append-nil ls ∙ same) (cut [])

-- more bytes came
pub cut_longer : (terms : Terms) (graph : Content) (first : ℕ) (bytes next : List ℕ)
    (before after : Option (List ℕ))
    → AreCutAfterBytes terms graph first bytes before after
    → AreCutAfterBytes terms graph first (bytes ++ next) before after
cut_longer terms graph first bytes next before after cut more =
    subst (λ (all : List ℕ). AreRepliesCut terms graph first (lines all) before after)
    (sym (append_assoc bytes next more)) (cut (next ++ more))

-- more of the bytes that came last
pub cut_in_all : (terms : Terms) (graph : Content) (first : ℕ) (heard bytes : List ℕ)
    (count : ℕ) (before after : Option (List ℕ))
    → AreCutAfterBytes terms graph first (heard ++ take count bytes) before after
    → AreCutAfterBytes terms graph first (heard ++ bytes) before after
cut_in_all terms graph first heard bytes count before after cut =
    subst (λ (all : List ℕ). AreCutAfterBytes terms graph first all before after)
    (append_assoc heard (take count bytes) (drop count bytes)
    ∙ ap (λ (all : List ℕ). heard ++ all) (take-append-drop count bytes))
    (cut_longer terms graph first (heard ++ take count bytes) (drop count bytes) before after cut)
