-- What a session takes from its reader, up to the end.
use Rattle.std.proofs.Common.{◌≡◌, ◌∙◌, ◌+◌, ◌-◌, ℕ, true, false, List, [], ◌++◌, Option, Result, Ok, Err, OnOk}
use Rattle.std.proofs.Common.{length, take, drop, arith, refl, subst, sym, ap, append_assoc}
use Rattle.std.proofs.lemmas.List.{append-nil}
use Rattle.std.proofs.KnownBytes.{Consumes-trans}
use Rattle.std.specs.Io.KnownBytes.{Consumes, IsAtEnd}
use Rattle.dimacs_text.specs.Jobs.{Content, absent, content_of}
use Rattle.dimacs_text.specs.Lines.{lines}
use Rattle.request_reader.specs.Reading.{HasRequests, vertices_of}
use Rattle.request_reader.specs.Requests.{AreRequests}
use Rattle.job_answer.specs.Bytes.{Writes}
use Rattle.job_answer.specs.declared.fault.Fault.{Fault}
use Rattle.job_answer.proofs.Facts.{appends-then}
use Rattle.session_answer.specs.declared.conversation.Conversation.{Conversation}
use Rattle.session_answer.specs.declared.initial_graph.InitialGraph.{InitialGraph}
use Rattle.session_answer.specs.Conversations.{AreAnswered, HasConversed, HasInitialGraph, HasHeard, IsAnsweredSession, IsKeptOf}
use Rattle.session_answer.specs.Terms.{Terms}
use Rattle.session_answer.specs.Replies.{HoldsGraph, IsAnswerIn}
use Rattle.session_answer.proofs.ReplyLemmas.{no_bytes}

-- these bytes came, then more were taken, and all of them were heard
pub record HasTaken (terms : Terms) (graph : Content) (first : ℕ)
    (conversation : Conversation) (heard : List ℕ) (taken_from taken_to before after : Option (List ℕ)) : Type 0 where
  pub so_far : List ℕ
  pub taken : Consumes taken_from taken_to so_far
  pub all : HasHeard terms graph first conversation (heard ++ so_far) before after

pub more_taken : (terms : Terms) (graph : Content) (first : ℕ)
    (old new : Conversation) (heard next : List ℕ) (taken_from between taken_to before middle after : Option (List ℕ))
    → HasTaken terms graph first old heard taken_from between before middle
    → Consumes between taken_to next
    → ((bytes : List ℕ) → HasHeard terms graph first old bytes before middle
    → HasHeard terms graph first new (bytes ++ next) before after)
    → HasTaken terms graph first new heard taken_from taken_to before after
more_taken terms graph first old new heard next taken_from between taken_to before middle after is takes
    hears = record {
      so_far = is.so_far ++ next;
      taken = Consumes-trans taken_from between taken_to is.so_far next is.taken takes;
      all =
          subst (λ bytes. HasHeard terms graph first new bytes before after) (append_assoc heard is.so_far next)
          (hears (heard ++ is.so_far) is.all);
    }

-- at the end of what the reader gives
pub all_taken : {T : Type 0} (terms : Terms) (graph : Content) (first : ℕ)
    (conversation : Conversation) (heard buffer : List ℕ) (count : ℕ)
    (taken_from between taken_to before middle after : Option (List ℕ)) (result : Result T Fault)
    → HasTaken terms graph first conversation heard taken_from between before middle
    → Consumes between taken_to (take count buffer) → count ≡ 0 → IsAtEnd taken_to
    → ((bytes : List ℕ) → HasHeard terms graph first conversation bytes before middle
    → OnOk result (AreAnswered terms graph first bytes before after))
    → OnOk result (HasConversed terms graph first heard taken_from taken_to before after)
all_taken terms graph first conversation heard buffer count taken_from between taken_to before middle after
    (Err fault) is takes none ended answers = tt
all_taken terms graph first conversation heard buffer count taken_from between taken_to before middle after
    (Ok done) is takes none ended answers = record {
      more = is.so_far;
      whole = record {
        taken =
            subst (λ bytes. Consumes taken_from taken_to bytes)
            (ap (λ k. is.so_far ++ take k buffer) none ∙ append-nil is.so_far)
            (Consumes-trans taken_from between taken_to is.so_far (take count buffer) is.taken takes);
        ended = ended;
      };
      answered = answers (heard ++ is.so_far) is.all;
    }

-- before the first byte after the graph
pub begins_heard : (terms : Terms) (graph : Content) (first : ℕ)
    (conversation : Conversation) (written : Option (List ℕ))
    → conversation.in_comment ≡ false → conversation.unfinished.items ≡ []
    → HasRequests conversation.requests first [] []
    → vertices_of conversation.requests ≡ graph.n → HoldsGraph graph conversation.session
    → HasHeard terms graph first conversation [] written written
begins_heard terms graph first conversation written outside none requests vertices holds = record {
  whole = [];
  begun = [];
  parts = refl;
  ended = λ more. refl;
  no_feed = λ k from to. absurd (omega arith);
  kept = subst (λ inside. IsKeptOf inside conversation.unfinished.items []) (sym outside) none;
  replied = record {
    outcomes = [];
    requests = requests;
    vertices = vertices;
    replied = record { text = []; replied = refl; written = no_bytes written; holds = holds };
  };
}

-- the input ends with the graph
pub session_ended : (limit : ℕ) (terms : Terms) (initial : InitialGraph) (line : ℕ) (buffer : List ℕ)
    (taken_from taken_to given_from given_to : Option (List ℕ))
    → HasInitialGraph limit initial buffer taken_from taken_to → initial.has_ended ≡ true → line ≡ initial.line - 1
    → Writes (IsAnswerIn terms (content_of initial.graph) absent line) given_from given_to
    → IsAnsweredSession limit terms taken_from taken_to given_from given_to
session_ended limit terms initial line buffer taken_from taken_to given_from given_to has ended names writes =
    let last = has.ended ended in
    let nothing : initial.end - initial.at ≡ 0 = omega (arith, last.1) in
    record {
      text = has.text;
      whole = record {
        taken =
            subst (λ bytes. Consumes taken_from taken_to bytes)
            (ap (λ k. has.text ++ take k (drop initial.at buffer)) nothing ∙ append-nil has.text) has.taken;
        ended = last.0;
      };
      replies = writes.text;
      session = record {
        initial = has.text;
        graph = content_of initial.graph;
        is_graph = has.is_graph;
        tight = has.tight;
        rest = [];
        parts = sym (append-nil (lines has.text));
        outcomes = [];
        requests = record { next = length (lines has.text) + 1; end = []; requests = (refl, refl); silent = tt };
        greeting = writes.text;
        greets =
            subst (λ k. IsAnswerIn terms (content_of initial.graph) absent k writes.text)
            (omega (arith, has.number, names)) writes.is_text;
        later = [];
        replied = refl;
        written = sym (append-nil writes.text);
      };
      few = has.few;
      written = writes.appended;
    }

-- requests come after it
pub session_whole : {T : Type 0} (limit : ℕ) (terms : Terms) (initial : InitialGraph) (line : ℕ) (buffer : List ℕ)
    (taken_from between taken_to given_from middle given_to : Option (List ℕ)) (result : Result T Fault)
    → HasInitialGraph limit initial buffer taken_from between → initial.has_ended ≡ false → line ≡ initial.line - 1
    → Writes (IsAnswerIn terms (content_of initial.graph) absent line) given_from middle
    → OnOk result
    (HasConversed terms (content_of initial.graph) initial.line
    (take (initial.end - initial.at) (drop initial.at buffer)) between taken_to middle given_to)
    → OnOk result (IsAnsweredSession limit terms taken_from taken_to given_from given_to)
session_whole limit terms initial line buffer taken_from between taken_to given_from middle given_to (Err fault) has
    goes_on names writes conversed = tt
session_whole limit terms initial line buffer taken_from between taken_to given_from middle given_to (Ok done) has
    goes_on names writes conversed =
    let heard = take (initial.end - initial.at) (drop initial.at buffer) in
    let more = conversed.more in
    record {
      text = has.text ++ (heard ++ more);
      whole = record {
        taken =
            subst (λ bytes. Consumes taken_from taken_to bytes) (append_assoc has.text heard more)
            (Consumes-trans taken_from between taken_to (has.text ++ heard) more has.taken conversed.whole.taken);
        ended = conversed.whole.ended;
      };
      replies = writes.text ++ conversed.answered.replies;
      session = record {
        initial = has.text;
        graph = content_of initial.graph;
        is_graph = has.is_graph;
        tight = has.tight;
        rest = lines (heard ++ more);
        parts = has.joined goes_on (heard ++ more);
        outcomes = conversed.answered.outcomes;
        requests =
            subst
            (λ first. AreRequests initial.graph.n first (lines (heard ++ more)) conversed.answered.outcomes)
            has.number conversed.answered.requests;
        greeting = writes.text;
        greets =
            subst (λ k. IsAnswerIn terms (content_of initial.graph) absent k writes.text)
            (omega (arith, has.number, names)) writes.is_text;
        later = conversed.answered.replies;
        replied = conversed.answered.replied;
        written = refl;
      };
      few = has.few;
      written =
          appends-then given_from middle given_to writes.text conversed.answered.replies writes.appended
          conversed.answered.written;
    }
