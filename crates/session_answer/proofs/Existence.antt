-- A graph and requests within the limits have replies, and only one text of them.
use Rattle.std.proofs.Common.{◌≡◌, ◌∙◌, ℕ, Bool, true, false, List, [], ◌∷◌, ◌++◌, length, ap, refl, sym}
use Rattle.answer_lines.specs.Lines.{ready_text, refusal_text}
use Rattle.dimacs_text.specs.declared.head.HeadForm.{HeadForm}
use Rattle.dimacs_text.specs.declared.head.HeadForm.TheVariants.{Sources, Within, Pairs, Walk, Added, Removed, Replaced, Listed}
use Rattle.dimacs_text.specs.Faults.{words_of}
use Rattle.dimacs_text.specs.Jobs.{Content, Question, absent, from_sources, of_pairs, IsQuestionWithin, IsWithinLimits}
use Rattle.request_reader.specs.Requests.{Outcome, whole, wrong, no_memory}
use Rattle.job_answer.specs.Existence.{AskedJobsHaveAnswersByLines}
use Rattle.job_answer.specs.Outcome.{IsUnasked, is_unasked}
use Rattle.job_answer.specs.Within.{AnswerTextsByLinesAreUnique, HasNoSources}
use Rattle.job_answer.specs.declared.question.asked.Answer.{Answer}
use Rattle.job_answer.specs.declared.question.asked.Answer.TheVariants as answer
use Rattle.job_answer.specs.declared.question.asked.Lines.{Lines}
use Rattle.job_answer.specs.declared.question.asked.Lines.TheVariants as by
use Rattle.session_answer.specs.Changes.{ChangeSeen, change_by, change_text, changed_by, pairs_of}
use Rattle.session_answer.specs.Laws.{AreWithin, IsOutcomeWithin, RepliesAreUnique, SessionsHaveReplies}
use Rattle.session_answer.specs.Replies.{AreReplies, IsAnswerIn, IsBodyIf, IsReplyBy, IsReplyFor, IsReplyTo}
use Rattle.session_answer.specs.Replies.{graph_after, job_of, listing_text, out_of_memory}
use Rattle.session_answer.specs.Terms.{Terms, lines_for, terms_by}
use Rattle.session_answer.proofs.CutLemmas.{one_answer, one_of_all}

-- ---- there are replies

-- what passes the test asks for something
asked_by_test : (kind : Answer) (graph : Content) (question : Question) → is_unasked kind question ≡ false
    → IsUnasked kind (job_of graph question) → ⊥
asked_by_test answer.Distances graph absent asked is = absurd (cc)
asked_by_test answer.Levels graph absent asked is = absurd (cc)
asked_by_test answer.Distances graph (from_sources sources) asked is = let none = is.unasked in absurd (cc)
asked_by_test answer.Levels graph (from_sources sources) asked is = let none = is.unasked in absurd (cc)
asked_by_test answer.Distances graph (of_pairs pairs) asked is = let none = is.unasked in absurd (cc)
asked_by_test answer.Levels graph (of_pairs pairs) asked is = let none = is.unasked in absurd (cc)
asked_by_test answer.Components graph question asked is = is.needed refl

-- a bound that asks for sources has sources
sources_bounded : (kind : Answer) (lines : Lines) (sources : List ℕ) → HasNoSources kind lines (from_sources sources) → ⊥
sources_bounded kind (by.Each walks) sources is = is
sources_bounded kind (by.Raw pairs) sources is = is
sources_bounded kind by.Totals sources is = is
sources_bounded answer.Distances (by.Within walks bound) sources is = is
sources_bounded answer.Levels (by.Within walks bound) sources is = is
sources_bounded answer.Components (by.Within walks bound) sources is = is

-- pairs never have a bound
lines_serve : (kind : Answer) (lines : Lines) (question : Question) → HasNoSources kind (lines_for lines question) question → ⊥
lines_serve kind lines absent is = is
lines_serve kind lines (from_sources sources) is = sources_bounded kind lines sources is
lines_serve kind (by.Each walks) (of_pairs pairs) is = is
lines_serve kind (by.Within walks bound) (of_pairs pairs) is = is
lines_serve kind (by.Raw false) (of_pairs pairs) is = is
lines_serve kind (by.Raw true) (of_pairs pairs) is = is
lines_serve kind by.Totals (of_pairs pairs) is = is

-- the graph is within the limits at first
graph_within : (graph : Content) (outcomes : List Outcome) → AreWithin graph outcomes → IsWithinLimits graph
graph_within graph [] within = within
graph_within graph (outcome ∷ outcomes) within = within.0

module _ (law : AskedJobsHaveAnswersByLines) where
  body_exists : (terms : Terms) (graph : Content) (question : Question) (unasked : Bool)
      → is_unasked terms.kind question ≡ unasked → IsWithinLimits graph → IsQuestionWithin graph.n question
      → (body : List ℕ) × IsBodyIf unasked terms.kind (lines_for terms.lines question) (job_of graph question) body
  body_exists terms graph question true test limits within = ([], refl)
  body_exists terms graph question false test limits within =
      law terms.kind (lines_for terms.lines question) (job_of graph question)
      (record {
        vertices = limits.vertices;
        arc_count = limits.arc_count;
        arcs = limits.arcs;
        question = within;
        added = tt;
      })
      (asked_by_test terms.kind graph question test) (lines_serve terms.kind terms.lines question)

  answer_exists : (terms : Terms) (graph : Content) (question : Question) (line : ℕ) → IsWithinLimits graph
      → IsQuestionWithin graph.n question
      → (text : List ℕ) × IsAnswerIn terms graph question line text
  answer_exists terms graph question line limits within =
      let body = body_exists terms graph question (is_unasked terms.kind question) refl limits within in (
        body.0 ++ ready_text graph.n (length graph.arcs) line,
        record { body = body.0; is_body = body.1; written = refl },
      )

  reply_exists : (terms : Terms) (graph : Content) (change : ChangeSeen) (question : Question) (line : ℕ)
      → IsWithinLimits (changed_by graph change) → IsQuestionWithin graph.n question
      → (text : List ℕ) × IsReplyTo terms graph change question line text
  reply_exists terms graph change question line limits within =
      let given = answer_exists terms (changed_by graph change) question line limits within in (
        change_text change graph.arcs ++ given.0,
        record { answer = given.0; is_answer = given.1; written = refl },
      )

  reply_by_exists : (form : HeadForm) (terms : Terms) (graph job : Content) (line : ℕ)
      → IsWithinLimits (changed_by graph (change_by form job)) → IsQuestionWithin graph.n job.question
      → (text : List ℕ) × IsReplyBy form terms graph job line text
  reply_by_exists Sources terms graph job line limits within =
      reply_exists terms graph (change_by Sources job) job.question line limits within
  reply_by_exists Within terms graph job line limits within =
      reply_exists terms graph (change_by Within job) job.question line limits within
  reply_by_exists Pairs terms graph job line limits within =
      reply_exists terms graph (change_by Pairs job) job.question line limits within
  reply_by_exists Walk terms graph job line limits within =
      reply_exists terms graph (change_by Walk job) job.question line limits within
  reply_by_exists Added terms graph job line limits within =
      reply_exists terms graph (change_by Added job) job.question line limits within
  reply_by_exists Removed terms graph job line limits within =
      reply_exists terms graph (change_by Removed job) absent line limits tt
  reply_by_exists Replaced terms graph job line limits within =
      reply_exists terms graph (change_by Replaced job) job.question line limits within
  reply_by_exists Listed terms graph job line limits within =
      (listing_text graph (pairs_of job.question) line, refl)

  reply_for_exists : (terms : Terms) (graph : Content) (outcome : Outcome) → IsWithinLimits (graph_after graph outcome)
      → IsOutcomeWithin graph.n outcome
      → (text : List ℕ) × IsReplyFor terms graph outcome text
  reply_for_exists terms graph (whole line job head) limits within =
      reply_by_exists head.form (terms_by head terms) graph job line limits within
  reply_for_exists terms graph (wrong line what) limits within = (refusal_text line (words_of what), refl)
  reply_for_exists terms graph (no_memory line) limits within = (refusal_text line out_of_memory, refl)

  replies_exist : (terms : Terms) (graph : Content) (outcomes : List Outcome) → AreWithin graph outcomes
      → (text : List ℕ) × AreReplies terms graph outcomes text
  replies_exist terms graph [] within = ([], refl)
  replies_exist terms graph (outcome ∷ outcomes) within =
      let first = reply_for_exists terms graph outcome (graph_within (graph_after graph outcome) outcomes within.2) within.1 in
      let rest = replies_exist terms (graph_after graph outcome) outcomes within.2 in
      (first.0 ++ rest.0, (first.0, rest.0, refl, first.1, rest.1))

  pub sessions_have_replies : SessionsHaveReplies
  sessions_have_replies terms graph line outcomes within =
      let greeting = answer_exists terms graph absent line (graph_within graph outcomes within) tt in
      let later = replies_exist terms graph outcomes within in (
        greeting.0 ++ later.0,
        record {
          greeting = greeting.0;
          greets = greeting.1;
          later = later.0;
          replied = later.1;
          written = refl;
        },
      )

-- ---- there is one text of them

pub replies_are_unique : AnswerTextsByLinesAreUnique → RepliesAreUnique
replies_are_unique law terms graph line outcomes first second one two =
    one.written
    ∙ ap (λ (greeting : List ℕ). greeting ++ one.later)
    (one_answer law terms graph absent line one.greeting two.greeting one.greets two.greets)
    ∙ ap (λ (later : List ℕ). two.greeting ++ later)
    (one_of_all law terms graph outcomes one.later two.later one.replied two.replied)
    ∙ sym two.written
