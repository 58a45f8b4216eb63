-- A session that a fault cuts short, from its first byte on.
use Rattle.std.proofs.Common.{◌≡◌, ◌∙◌, ◌+◌, ◌-◌, inl, inr, ℕ, Bool, true, false, List, [], ◌++◌, Option, length, take, drop}
use Rattle.std.proofs.Common.{arith, refl, subst, sym, ap, append_assoc}
use Rattle.std.proofs.lemmas.List.{append-nil}
use Rattle.std.proofs.KnownBytes.{Consumes-kept, Consumes-nil, Consumes-trans, Keeps-refl}
use Rattle.std.specs.Io.KnownBytes.{Consumes, IsAtEnd, Keeps}
use Rattle.dimacs_text.specs.declared.reader.JobReader.{JobReader}
use Rattle.dimacs_text.specs.Jobs.{Content, absent, content_of}
use Rattle.dimacs_text.specs.Lines.{lines}
use Rattle.request_reader.specs.Requests.{AreRequestsTo}
use Rattle.job_answer.specs.Bytes.{Writes, WritesPrefix}
use Rattle.job_answer.specs.Within.{AnswerTextsByLinesAreUnique}
use Rattle.session_answer.specs.Conversations.{HasInitialGraph}
use Rattle.session_answer.specs.Cuts.{AreAllReplies, AreCutAfterBytes, AreRepliesCut, IsCutConversation, IsCutSession}
use Rattle.session_answer.specs.Cuts.{MayFollow, TakesSome}
use Rattle.session_answer.specs.Terms.{Terms}
use Rattle.session_answer.specs.Replies.{AreReplies, IsAnswerIn}
use Rattle.session_answer.specs.declared.conversation.Conversation.{Conversation}
use Rattle.session_answer.specs.declared.initial_graph.InitialGraph.{InitialGraph}
use Rattle.session_answer.proofs.CutLemmas.{first_cut, heard_cut, one_answer, second_cut}
use Rattle.session_answer.proofs.InitialGraphLemmas.{IsFed}
use Rattle.session_answer.proofs.WholeLemmas.{HasTaken}

-- ---- while the graph is read

pub fed_some : (job : JobReader) (limit left : ℕ) (before between after : Option (List ℕ))
    → IsFed job limit left before between → Keeps between after → TakesSome before after
fed_some job limit left before between after fed keeps =
    record { bytes = fed.text; taken = Consumes-kept before between after fed.text fed.taken keeps }

pub fed_more : (job : JobReader) (limit left : ℕ) (before between after : Option (List ℕ)) (next : List ℕ)
    → IsFed job limit left before between → Consumes between after next → TakesSome before after
fed_more job limit left before between after next fed takes =
    record { bytes = fed.text ++ next; taken = Consumes-trans before between after fed.text next fed.taken takes }

-- more was taken after that
pub fed_then : (job : JobReader) (limit left : ℕ) (before between then after : Option (List ℕ)) (next more : List ℕ)
    → IsFed job limit left before between → Consumes between then next → Consumes then after more
    → TakesSome before after
fed_then job limit left before between then after next more fed takes last =
    let some = fed_more job limit left before between then next fed takes in
    record { bytes = some.bytes ++ more; taken = Consumes-trans before then after some.bytes more some.taken last }

-- ---- while requests are read

-- a read failed, or no more are made
pub read_cut : AnswerTextsByLinesAreUnique
    → (terms : Terms) (graph : Content) (first : ℕ) (conversation : Conversation)
    (heard : List ℕ) (taken_from between taken_to before after : Option (List ℕ))
    → HasTaken terms graph first conversation heard taken_from between before after
    → Keeps between taken_to
    → IsCutConversation terms graph first heard taken_from taken_to before after
read_cut law terms graph first conversation heard taken_from between taken_to before after is keeps = record {
  more = is.so_far;
  taken = Consumes-kept taken_from between taken_to is.so_far is.taken keeps;
  cut = λ later may.
      subst (λ (bytes : List ℕ). AreRepliesCut terms graph first (lines bytes) before after)
      (append_assoc heard is.so_far later)
      (heard_cut law terms graph first conversation (heard ++ is.so_far) before after is.all later);
}

-- the bytes that came last were not all used
pub last_cut : (terms : Terms) (graph : Content) (first : ℕ)
    (conversation : Conversation) (heard next : List ℕ) (taken_from between taken_to before middle after : Option (List ℕ))
    → (is : HasTaken terms graph first conversation heard taken_from between before middle)
    → Consumes between taken_to next
    → AreCutAfterBytes terms graph first ((heard ++ is.so_far) ++ next) before after
    → IsCutConversation terms graph first heard taken_from taken_to before after
last_cut terms graph first conversation heard next taken_from between taken_to before middle after is takes cut =
    record {
      more = is.so_far ++ next;
      taken = Consumes-trans taken_from between taken_to is.so_far next is.taken takes;
      cut = λ later may.
          subst (λ (bytes : List ℕ). AreRepliesCut terms graph first (lines bytes) before after)
          (append_assoc (heard ++ is.so_far) next later
          ∙ append_assoc heard is.so_far (next ++ later)
          ∙ ap (λ (bytes : List ℕ). heard ++ bytes) (sym (append_assoc is.so_far next later)))
          (cut later);
    }

-- the end was reached
pub end_cut : (terms : Terms) (graph : Content) (first : ℕ)
    (conversation : Conversation) (heard buffer : List ℕ) (count : ℕ)
    (taken_from between taken_to before middle after : Option (List ℕ))
    → (is : HasTaken terms graph first conversation heard taken_from between before middle)
    → Consumes between taken_to (take count buffer) → count ≡ 0 → IsAtEnd taken_to
    → AreRepliesCut terms graph first (lines (heard ++ is.so_far)) before after
    → IsCutConversation terms graph first heard taken_from taken_to before after
end_cut terms graph first conversation heard buffer count taken_from between taken_to before middle after is
    takes none ended cut = record {
      more = is.so_far;
      taken =
          subst (λ (bytes : List ℕ). Consumes taken_from taken_to bytes)
          (ap (λ k. is.so_far ++ take k buffer) none ∙ append-nil is.so_far)
          (Consumes-trans taken_from between taken_to is.so_far (take count buffer) is.taken takes);
      cut = λ later may.
          subst
          (λ (bytes : List ℕ). AreRepliesCut terms graph first (lines (heard ++ bytes)) before after)
          (sym (ap (λ (bytes : List ℕ). is.so_far ++ bytes) (may ended) ∙ append-nil is.so_far)) cut;
    }

-- nothing more was taken
pub first_heard_cut : (terms : Terms) (graph : Content) (first : ℕ) (heard : List ℕ)
    (same before after : Option (List ℕ))
    → AreCutAfterBytes terms graph first heard before after
    → IsCutConversation terms graph first heard same same before after
first_heard_cut terms graph first heard same before after cut =
    record { more = []; taken = Consumes-nil same; cut = λ later may. cut later }

-- ---- the whole session

-- nothing was given
pub nothing_cut : (limit : ℕ) (terms : Terms) (taken_from taken_to same : Option (List ℕ))
    → TakesSome taken_from taken_to → IsCutSession limit terms taken_from taken_to same same
nothing_cut limit terms taken_from taken_to same some =
    record { text = some.bytes; taken = some.taken; given = inl (Keeps-refl same) }

-- the lines of a graph, and those that follow
front_parts : (limit : ℕ) (initial : InitialGraph) (buffer : List ℕ) (taken_from taken_to : Option (List ℕ))
    → (is : HasInitialGraph limit initial buffer taken_from taken_to)
    → (more : List ℕ) → MayFollow taken_to more
    → (rest : List (List ℕ))
    × (lines ((is.text ++ take (initial.end - initial.at) (drop initial.at buffer)) ++ more) ≡ lines is.text ++ rest)
front_parts limit initial buffer taken_from taken_to is more may = by_end initial.has_ended refl
  where
    last : List ℕ
    last = take (initial.end - initial.at) (drop initial.at buffer)

    by_end : (b : Bool) → initial.has_ended ≡ b
        → (rest : List (List ℕ)) × (lines ((is.text ++ last) ++ more) ≡ lines is.text ++ rest)
    by_end false goes_on = (
      lines (last ++ more),
      ap (λ (bytes : List ℕ). lines bytes) (append_assoc is.text last more) ∙ is.joined goes_on (last ++ more),
    )
    by_end true ended =
        let at_end = is.ended ended in
        let nothing : initial.end - initial.at ≡ 0 = omega (arith, at_end.1) in (
          [],
          ap (λ (bytes : List ℕ). lines ((is.text ++ last) ++ bytes)) (may at_end.0)
              ∙ ap (λ (bytes : List ℕ). lines bytes)
              (append-nil (is.text ++ last)
              ∙ ap (λ k. is.text ++ take k (drop initial.at buffer)) nothing
              ∙ append-nil is.text)
              ∙ sym (append-nil (lines is.text)),
        )

-- the reply to the graph was cut short
pub greeting_cut : (limit : ℕ) (terms : Terms) (initial : InitialGraph) (line : ℕ) (buffer : List ℕ)
    (taken_from taken_to given_from given_to : Option (List ℕ))
    → HasInitialGraph limit initial buffer taken_from taken_to → line ≡ initial.line - 1
    → WritesPrefix (IsAnswerIn terms (content_of initial.graph) absent line) given_from given_to
    → IsCutSession limit terms taken_from taken_to given_from given_to
greeting_cut limit terms initial line buffer taken_from taken_to given_from given_to has names cut = record {
  text = has.text ++ take (initial.end - initial.at) (drop initial.at buffer);
  taken = has.taken;
  given = inr
      (λ more may.
      let parts = front_parts limit initial buffer taken_from taken_to has more may in
      record {
        initial = has.text;
        few = has.few;
        graph = content_of initial.graph;
        is_graph = has.is_graph;
        tight = has.tight;
        rest = parts.0;
        parts = parts.1;
        outcomes = [];
        next = length (lines has.text) + 1;
        end = parts.0;
        requests = (refl, refl);
        replied =
            first_cut (IsAnswerIn terms (content_of initial.graph) absent line)
            (AreAllReplies terms (content_of initial.graph) (length (lines has.text)) []) given_from given_to
            (λ text is. (
              is.greeting,
              is.later,
              subst (λ k. IsAnswerIn terms (content_of initial.graph) absent k is.greeting)
                  (omega (arith, has.number, names)) is.greets,
              is.written,
            ))
            cut;
      });
}

-- the replies to requests were cut short
pub session_cut : AnswerTextsByLinesAreUnique
    → (limit : ℕ) (terms : Terms) (initial : InitialGraph) (line : ℕ) (buffer : List ℕ)
    (taken_from between taken_to given_from middle given_to : Option (List ℕ))
    → HasInitialGraph limit initial buffer taken_from between → initial.has_ended ≡ false → line ≡ initial.line - 1
    → Writes (IsAnswerIn terms (content_of initial.graph) absent line) given_from middle
    → IsCutConversation terms (content_of initial.graph) initial.line
    (take (initial.end - initial.at) (drop initial.at buffer)) between taken_to middle given_to
    → IsCutSession limit terms taken_from taken_to given_from given_to
session_cut law limit terms initial line buffer taken_from between taken_to given_from middle given_to has goes_on names
    writes conversed =
    let heard = take (initial.end - initial.at) (drop initial.at buffer) in
    let graph = content_of initial.graph in
    let more = conversed.more in
    record {
      text = has.text ++ (heard ++ more);
      taken =
          subst (λ (bytes : List ℕ). Consumes taken_from taken_to bytes) (append_assoc has.text heard more)
          (Consumes-trans taken_from between taken_to (has.text ++ heard) more has.taken conversed.taken);
      given = inr
          (λ later may.
          let cut = conversed.cut later may in
          record {
            initial = has.text;
            few = has.few;
            graph = graph;
            is_graph = has.is_graph;
            tight = has.tight;
            rest = lines (heard ++ (more ++ later));
            parts =
                ap (λ (bytes : List ℕ). lines bytes)
                (append_assoc has.text (heard ++ more) later
                ∙ ap (λ (bytes : List ℕ). has.text ++ bytes) (append_assoc heard more later))
                ∙ has.joined goes_on (heard ++ (more ++ later));
            outcomes = cut.outcomes;
            next = cut.next;
            end = cut.end;
            requests =
                subst
                (λ first. AreRequestsTo graph.n cut.next cut.end first (lines (heard ++ (more ++ later))) cut.outcomes)
                has.number cut.requests;
            replied =
                second_cut (AreReplies terms graph cut.outcomes)
                (AreAllReplies terms graph (length (lines has.text)) cut.outcomes) writes.text given_from middle given_to
                (λ text is. (
                  is.later,
                  is.replied,
                  is.written
                      ∙ ap (λ (greeting : List ℕ). greeting ++ is.later)
                      (one_answer law terms graph absent (length (lines has.text)) is.greeting writes.text is.greets
                      (subst (λ k. IsAnswerIn terms graph absent k writes.text) (omega (arith, has.number, names))
                      writes.is_text)),
                ))
                writes.appended cut.replied;
          });
    }
