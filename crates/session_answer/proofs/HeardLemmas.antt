-- The bytes that came after a graph, line by line.
use Rattle.std.proofs.Common.{◌≡◌, ◌∙◌, ℕ, zero, suc, ◌<◌, ◌≤◌, Bool, true, false, List, [], ◌∷◌, ◌++◌, Option, None, length}
use Rattle.std.proofs.Common.{◌+◌, ◌-◌, take, drop, refl, sym, ap, subst, arith, append_assoc, get_or-drop, length-drop}
use Rattle.std.specs.Prelude.{slice_index}
use Rattle.std.proofs.lemmas.List.{append-nil}
use Rattle.dimacs_text.specs.Jobs.{Content}
use Rattle.dimacs_text.specs.Lines.{begins_comment, lines}
use Rattle.dimacs_text.specs.reader.FastArc.{HasNoFeed}
use Rattle.dimacs_text.proofs.Facts.{drop_next, keeps_more, line_first, lines_whole}
use Rattle.request_reader.specs.Reading.{HasRequests, vertices_of}
use Rattle.request_reader.specs.Requests.{Outcome}
use Rattle.session_answer.specs.Terms.{Terms}
use Rattle.session_answer.specs.Conversations.{HasHeard, HasRepliedTo, IsKeptOf, Replies}
use Rattle.session_answer.specs.Cuts.{AreCutAfterBytes, AreCutAfterLines, AreRepliesCut}
use Rattle.session_answer.specs.declared.conversation.Conversation.{Conversation}

-- ---- a line and what comes after it

-- whole lines, and one more with its line feed
abbrev with_line : List ℕ → List ℕ → List ℕ
with_line whole line = whole ++ (line ++ 10 ∷ [])

lines_with : (whole line more : List ℕ) → ((more : List ℕ) → lines (whole ++ more) ≡ lines whole ++ lines more)
    → HasNoFeed line 0 (length line)
    → lines (with_line whole line ++ more) ≡ (lines whole ++ line ∷ []) ++ lines more
lines_with whole line more ended free =
    ap (λ (bytes : List ℕ). lines bytes)
    (append_assoc whole (line ++ 10 ∷ []) more
    ∙ ap (λ (bytes : List ℕ). whole ++ bytes) (append_assoc line (10 ∷ []) more))
    ∙ ended (line ++ 10 ∷ more)
    ∙ ap (λ (ls : List (List ℕ)). lines whole ++ ls) (line_first line more free)
    ∙ sym (append_assoc (lines whole) (line ∷ []) (lines more))

lines_so_far : (whole line : List ℕ) → ((more : List ℕ) → lines (whole ++ more) ≡ lines whole ++ lines more)
    → HasNoFeed line 0 (length line)
    → lines (with_line whole line) ≡ lines whole ++ line ∷ []
lines_so_far whole line ended free =
    ap (λ (bytes : List ℕ). lines bytes) (sym (append-nil (with_line whole line)))
    ∙ lines_with whole line [] ended free
    ∙ append-nil (lines whole ++ line ∷ [])

-- ---- a line in the bytes that came last

no_take : (count : ℕ) → take {A = ℕ} count [] ≡ []
no_take zero = refl
no_take (suc count) = refl

take_split : (at count : ℕ) (bytes : List ℕ) → take (at + count) bytes ≡ take at bytes ++ take count (drop at bytes)
take_split zero count bytes = ap (λ n. take n bytes) (omega arith)
take_split (suc at) count [] = no_take (suc at + count) ∙ sym (no_take count)
take_split (suc at) count (b ∷ bs) =
    let on : suc at + count ≡ suc (at + count) = omega arith in
    ap (λ n. take n (b ∷ bs)) on ∙ ap (λ (rest : List ℕ). b ∷ rest) (take_split at count bs)

-- the bytes before a line, the line, and its line feed
pub taken_line : (bytes : List ℕ) (at end : ℕ) → at ≤ end → end < length bytes → slice_index bytes end ≡ 10
    → take at bytes ++ (take (end - at) (drop at bytes) ++ 10 ∷ []) ≡ take (end + 1) bytes
taken_line bytes at end before inside feed =
    let initial : take end bytes ≡ take at bytes ++ take (end - at) (drop at bytes) =
    ap (λ k. take k bytes) (omega (arith, before)) ∙ take_split at (end - at) bytes in
    let last : take 1 (drop end bytes) ≡ 10 ∷ [] =
    ap (λ rest. take 1 rest) (drop_next bytes end inside) ∙ ap (λ b. b ∷ []) feed in
    sym (append_assoc (take at bytes) (take (end - at) (drop at bytes)) (10 ∷ []))
    ∙ ap (λ (some : List ℕ). some ++ 10 ∷ []) (sym initial)
    ∙ ap (λ (some : List ℕ). take end bytes ++ some) (sym last)
    ∙ sym (take_split end 1 bytes)

-- what is left after a place has no line feed
pub no_feed_after : (bytes : List ℕ) (at : ℕ) → HasNoFeed bytes at (length bytes)
    → HasNoFeed (drop at bytes) 0 (length (drop at bytes))
no_feed_after bytes at free k from to feed =
    free (at + k) (omega arith) (omega (arith, length-drop at bytes)) (sym (get_or-drop at bytes k 0) ∙ feed)

-- ---- what a session has heard

-- the bytes of an unfinished line count for nothing yet
pub same_replied : (terms : Terms) (graph : Content) (first : ℕ)
    (old new : Conversation) (ls : List (List ℕ)) (before after : Option (List ℕ))
    → new.requests ≡ old.requests → new.session ≡ old.session
    → HasRepliedTo terms graph first old ls before after
    → HasRepliedTo terms graph first new ls before after
same_replied terms graph first old new ls before after requests session is = record {
  outcomes = is.outcomes;
  requests = subst (λ reader. HasRequests reader first ls is.outcomes) (sym requests) is.requests;
  vertices = ap (λ reader. vertices_of reader) requests ∙ is.vertices;
  replied = subst (λ kept. Replies terms graph is.outcomes kept before after) (sym session) is.replied;
}

-- bytes without a line feed
pub heard_rest : (terms : Terms) (graph : Content) (first : ℕ)
    (old new : Conversation) (heard rest : List ℕ) (before after : Option (List ℕ))
    → HasHeard terms graph first old heard before after
    → HasNoFeed rest 0 (length rest)
    → ((begun : List ℕ) → IsKeptOf old.in_comment old.unfinished.items begun
    → IsKeptOf new.in_comment new.unfinished.items (begun ++ rest))
    → new.requests ≡ old.requests → new.session ≡ old.session
    → HasHeard terms graph first new (heard ++ rest) before after
heard_rest terms graph first old new heard rest before after is free kept requests session =
    let keeps = keeps_more None is.whole is.begun heard rest refl free (is.parts, is.no_feed) in
    record {
      whole = is.whole;
      begun = is.begun ++ rest;
      parts = keeps.0;
      ended = is.ended;
      no_feed = keeps.1;
      kept = kept is.begun is.kept;
      replied =
          same_replied terms graph first old new (lines is.whole) before after requests session is.replied;
    }

-- a comment is passed by
pub passed_replied : (terms : Terms) (graph : Content) (first : ℕ)
    (old new : Conversation) (ls : List (List ℕ)) (line : List ℕ) (before after : Option (List ℕ))
    → ((outcomes : List Outcome) → HasRequests old.requests first ls outcomes
    → HasRequests new.requests first (ls ++ line ∷ []) outcomes)
    → vertices_of new.requests ≡ vertices_of old.requests → new.session ≡ old.session
    → HasRepliedTo terms graph first old ls before after
    → HasRepliedTo terms graph first new (ls ++ line ∷ []) before after
passed_replied terms graph first old new ls line before after requests vertices session is = record {
  outcomes = is.outcomes;
  requests = requests is.outcomes is.requests;
  vertices = vertices ∙ is.vertices;
  replied = subst (λ kept. Replies terms graph is.outcomes kept before after) (sym session) is.replied;
}

-- what is kept of a line that is no comment is what has come of it
pub kept_begun : (in_comment : Bool) (kept begun : List ℕ) → in_comment ≡ false → IsKeptOf in_comment kept begun
    → kept ≡ begun
kept_begun in_comment kept begun outside is = subst (λ inside. IsKeptOf inside kept begun) outside is

pub comment_begun : (in_comment : Bool) (kept begun : List ℕ) → in_comment ≡ true → IsKeptOf in_comment kept begun
    → (kept ≡ []) × (begins_comment begun ≡ true)
comment_begun in_comment kept begun inside is = subst (λ test. IsKeptOf test kept begun) inside is

-- the rest of a line, and its line feed
pub heard_line : (terms : Terms) (graph : Content) (first : ℕ)
    (old new : Conversation) (heard rest : List ℕ) (before between after : Option (List ℕ))
    → (is : HasHeard terms graph first old heard before between)
    → HasNoFeed rest 0 (length rest)
    → new.in_comment ≡ false → new.unfinished.items ≡ []
    → HasRepliedTo terms graph first new (lines is.whole ++ (is.begun ++ rest) ∷ []) before after
    → HasHeard terms graph first new (heard ++ rest ++ 10 ∷ []) before after
heard_line terms graph first old new heard rest before between after is free outside none replied =
    let keeps = keeps_more None is.whole is.begun heard rest refl free (is.parts, is.no_feed) in
    let line = is.begun ++ rest in
    let so_far = lines_so_far is.whole line is.ended keeps.1 in
    record {
      whole = with_line is.whole line;
      begun = [];
      parts =
          ap (λ (bytes : List ℕ). bytes ++ 10 ∷ []) keeps.0
          ∙ append_assoc is.whole line (10 ∷ [])
          ∙ sym (append-nil (with_line is.whole line));
      ended = λ more.
          lines_with is.whole line more is.ended keeps.1
          ∙ ap (λ (ls : List (List ℕ)). ls ++ lines more) (sym so_far);
      no_feed = λ k from to. absurd (omega arith);
      kept = subst (λ inside. IsKeptOf inside new.unfinished.items []) (sym outside) none;
      replied =
          subst (λ (ls : List (List ℕ)). HasRepliedTo terms graph first new ls before after) (sym so_far)
          replied;
    }

-- a fault came at the line
pub cut_at_line : (terms : Terms) (graph : Content) (first : ℕ)
    (old : Conversation) (heard rest : List ℕ) (before between after : Option (List ℕ))
    → (is : HasHeard terms graph first old heard before between)
    → HasNoFeed rest 0 (length rest)
    → AreCutAfterLines terms graph first (lines is.whole ++ (is.begun ++ rest) ∷ []) before after
    → AreCutAfterBytes terms graph first (heard ++ rest ++ 10 ∷ []) before after
cut_at_line terms graph first old heard rest before between after is free cut more =
    let keeps = keeps_more None is.whole is.begun heard rest refl free (is.parts, is.no_feed) in
    let line = is.begun ++ rest in
    subst (λ (ls : List (List ℕ)). AreRepliesCut terms graph first ls before after)
    (sym
    (ap (λ (bytes : List ℕ). lines (bytes ++ more))
    (ap (λ (bytes : List ℕ). bytes ++ 10 ∷ []) keeps.0 ∙ append_assoc is.whole line (10 ∷ []))
    ∙ lines_with is.whole line more is.ended keeps.1))
    (cut (lines more))

-- ---- at the end

-- no line is unfinished
pub lines_heard : (terms : Terms) (graph : Content) (first : ℕ)
    (conversation : Conversation) (heard : List ℕ) (before after : Option (List ℕ))
    → (is : HasHeard terms graph first conversation heard before after)
    → is.begun ≡ []
    → lines heard ≡ lines is.whole
lines_heard terms graph first conversation heard before after is none =
    ap (λ (bytes : List ℕ). lines bytes)
    (is.parts ∙ ap (λ (kept : List ℕ). is.whole ++ kept) none ∙ append-nil is.whole)

-- the last line lacks its line feed
pub lines_at_end : (terms : Terms) (graph : Content) (first : ℕ)
    (conversation : Conversation) (heard : List ℕ) (before after : Option (List ℕ))
    → (is : HasHeard terms graph first conversation heard before after)
    → 0 < length is.begun
    → lines heard ≡ lines is.whole ++ is.begun ∷ []
lines_at_end terms graph first conversation heard before after is some =
    ap (λ (bytes : List ℕ). lines bytes) is.parts
    ∙ is.ended is.begun
    ∙ ap (λ (ls : List (List ℕ)). lines is.whole ++ ls)
    (lines_whole is.begun some (λ k few. is.no_feed k (omega arith) few))
