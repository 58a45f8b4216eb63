-- The text of a graph that comes by single reads.
use Rattle.std.proofs.Common.{◌≡◌, ◌∙◌, ◌+◌, ◌-◌, ◌≤◌, ◌<◌, ◌^◌, ℕ, zero, suc, List, [], ◌∷◌, ◌++◌, Option, Result, Ok, Err, IfOk, true, false}
use Rattle.std.proofs.Common.{length, take, drop, arith, refl, subst, sym, ap, ap₂, take-append-drop, append_assoc, length-append}
use Rattle.std.proofs.lemmas.List.{drop-take, length-take-le, take_all}
use Rattle.std.proofs.KnownBytes.{Consumes-trans}
use Rattle.std.specs.Io.KnownBytes.{Consumes, IsAtEnd}
use Rattle.dimacs_text.specs.declared.reader.JobReader.{JobReader}
use Rattle.dimacs_text.specs.GraphTexts.{HasNoGraphInside, IsGraphText}
use Rattle.dimacs_text.specs.Jobs.{content_of, IsWithinLimits}
use Rattle.dimacs_text.specs.Lines.{lines}
use Rattle.dimacs_text.specs.Reading.{HasRead, Reads}
use Rattle.job_answer.specs.declared.fault.Fault.{Fault}
use Rattle.session_answer.specs.declared.initial_graph.InitialGraph.{InitialGraph}
use Rattle.job_reader.specs.Pieces.{Feeds}
use Rattle.session_answer.specs.Conversations.{HasInitialGraph}

-- the reader of the graph has read all that was taken, and `left` bytes may still come
pub record IsFed (job : JobReader) (limit left : ℕ) (before after : Option (List ℕ)) : Type 0 where
  pub text : List ℕ
  pub read : HasRead job text
  pub taken : Consumes before after text
  pub count : length text + left ≡ limit
  pub inside : HasNoGraphInside text

-- all of what was taken next was fed
pub fed_all : (old new : JobReader) (limit left : ℕ) (before between after : Option (List ℕ)) (next : List ℕ)
    → limit ≤ 2 ^ 36 → (fed : IsFed old limit left before between) → Consumes between after next → Reads old new next
    → length next ≤ left → HasNoGraphInside (fed.text ++ next) → IsFed new limit (left - length next) before after
fed_all old new limit left before between after next low fed taken reads few inside = record {
  text = fed.text ++ next;
  read = reads fed.text fed.read (omega (arith, low, fed.count, few));
  taken = Consumes-trans before between after fed.text next fed.taken taken;
  count = omega (arith, fed.count, few, length-append fed.text next);
  inside = inside;
}

-- all of what came was fed
pub fed_came : (old new : JobReader) (limit left : ℕ) (before between after : Option (List ℕ)) (buffer : List ℕ)
    (at count : ℕ)
    → limit ≤ 2 ^ 36 → (fed : IsFed old limit left before between) → Consumes between after (take count buffer)
    → count ≤ length buffer → count ≤ left → Reads old new (take at (take count buffer)) → count ≤ at
    → HasNoGraphInside (fed.text ++ take at (take count buffer))
    → IsFed new limit (left - count) before after
fed_came old new limit left before between after buffer at count low fed takes room few reads over inside =
    let came = length-take-le count buffer room in
    let all : take at (take count buffer) ≡ take count buffer =
    take_all at (take count buffer) (omega (arith, came, over)) in
    subst (λ k. IsFed new limit (left - k) before after) came
    (fed_all old new limit left before between after (take count buffer) low fed takes
    (subst (λ bytes. Reads old new bytes) all reads) (omega (arith, came, few))
    (subst (λ bytes. HasNoGraphInside (fed.text ++ bytes)) all inside))

-- what comes first in a front comes first in the whole
pub take_within : (at count : ℕ) (bytes : List ℕ) → at ≤ count → take at (take count bytes) ≡ take at bytes
take_within zero count bytes low = refl
take_within (suc at) zero bytes low = absurd (omega arith)
take_within (suc at) (suc count) [] low = refl
take_within (suc at) (suc count) (b ∷ bytes) low = ap (λ l. b ∷ l) (take_within at count bytes (omega arith))

-- so what was read within the limit came first in what was read
pub reads_within : (old new : JobReader) (buffer : List ℕ) (at within count : ℕ)
    → at ≤ within → within ≤ count → Reads old new (take at (take within buffer)) → Reads old new (take at (take count buffer))
reads_within old new buffer at within count low few reads =
    subst (λ bytes. Reads old new bytes)
    (take_within at within buffer low ∙ sym (take_within at count buffer (omega (arith, low, few)))) reads

-- no more than the graph was fed
pub fed_inside : (old : JobReader) (limit left : ℕ) (before between : Option (List ℕ)) (buffer : List ℕ)
    (at within count : ℕ)
    → limit ≤ 2 ^ 36 → (fed : IsFed old limit left before between) → within ≤ length buffer → at ≤ within → within ≤ count
    → within ≤ left
    → ((text : List ℕ) → HasRead old text → length text + length (take within buffer) ≤ 2 ^ 36 → HasNoGraphInside text
    → HasNoGraphInside (text ++ take at (take within buffer)))
    → HasNoGraphInside (fed.text ++ take at (take count buffer))
fed_inside old limit left before between buffer at within count low fed room place few fits inside =
    subst (λ bytes. HasNoGraphInside (fed.text ++ bytes))
    (take_within at within buffer place ∙ sym (take_within at count buffer (omega (arith, place, few))))
    (inside fed.text fed.read (omega (arith, low, fed.count, fits, length-take-le within buffer room)) fed.inside)

-- nothing was fed
pub nothing_inside : HasNoGraphInside []
nothing_inside front rest graph is is_graph =
    absurd (omega (arith, ap (λ (bytes : List ℕ). length bytes) is, length-append front (10 ∷ rest)))

-- a text that lacks lines of a graph has none
lacking_inside : (text : List ℕ) → HasNoGraphInside (text ++ 0 ∷ []) → HasNoGraphInside text
lacking_inside text inside front rest graph is is_graph =
    let none = inside front (rest ++ 0 ∷ []) graph (ap (λ bytes. bytes ++ 0 ∷ []) is ∙ append_assoc front (10 ∷ rest) (0 ∷ []))
    is_graph in
    absurd (omega (arith, ap (λ (bytes : List ℕ). length bytes) none, length-append rest (0 ∷ [])))

-- a text is followed by what was read after it
split_last : (text buffer : List ℕ) (at count : ℕ)
    → at ≤ count
    → (text ++ take at (take count buffer)) ++ take (count - at) (drop at buffer) ≡ text ++ take count buffer
split_last text buffer at count low =
    let more : at + (count - at) ≡ count = omega (arith, low) in
    append_assoc text (take at (take count buffer)) (take (count - at) (drop at buffer))
    ∙ ap (λ l. text ++ (take at (take count buffer) ++ l))
    (sym (drop-take at (count - at) buffer) ∙ ap (λ k. drop at (take k buffer)) more)
    ∙ ap (λ l. text ++ l) (take-append-drop at (take count buffer))

-- the input ends after the graph
pub ended_has : (job : JobReader) (limit left : ℕ) (before between after : Option (List ℕ)) (buffer : List ℕ) (count : ℕ)
    (result : Result InitialGraph Fault)
    → IsFed job limit left before between → Consumes between after (take count buffer) → count ≡ 0 → IsAtEnd after
    → IfOk result (λ initial. (initial.at ≡ 0) × (initial.end ≡ 0) × (initial.has_ended ≡ true))
    → ((text : List ℕ) → HasRead job text → IfOk result (λ initial. IsGraphText text (content_of initial.graph)))
    → ((text : List ℕ) → HasRead job text → IfOk result (λ initial. initial.line ≡ length (lines text) + 1))
    → IfOk result (λ initial. HasInitialGraph limit initial buffer before after)
ended_has job limit left before between after buffer count (Err fault) fed takes none ended places graph next = tt
ended_has job limit left before between after buffer count (Ok initial) fed takes none ended places graph next =
    let zero : initial.end - initial.at ≡ count = omega (arith, places.0, places.1, none) in
    let nothing : take (initial.end - initial.at) (drop initial.at buffer) ≡ take count buffer =
    ap (λ k. take k (drop initial.at buffer)) (zero ∙ none) ∙ sym (ap (λ k. take k buffer) none) in
    record {
      text = fed.text;
      few = omega (arith, fed.count);
      is_graph = graph fed.text fed.read;
      tight = fed.inside;
      number = next fed.text fed.read;
      joined = λ other more. absurd (let is = places.2 in cc);
      taken =
          subst (λ bytes. Consumes before after (fed.text ++ bytes)) (sym nothing)
          (Consumes-trans before between after fed.text (take count buffer) fed.taken takes);
      ended = λ is. (ended, places.1 ∙ sym places.0);
    }

-- the graph ends within what was read last, or right after it
pub open_has : (old job : JobReader) (limit left : ℕ) (before between after : Option (List ℕ)) (buffer : List ℕ)
    (at count : ℕ) (result : Result InitialGraph Fault)
    → limit ≤ 2 ^ 36 → (fed : IsFed old limit left before between) → Consumes between after (take count buffer)
    → count ≤ length buffer → at ≤ left → at ≤ count → Reads old job (take at (take count buffer))
    → HasNoGraphInside (fed.text ++ take at (take count buffer))
    → IfOk result (λ initial. (initial.at ≡ at) × (initial.end ≡ count) × (initial.has_ended ≡ false))
    → ((text : List ℕ) → HasRead job text → IfOk result (λ initial. IsGraphText text (content_of initial.graph)))
    → ((text : List ℕ) → HasRead job text → IfOk result (λ initial. initial.line ≡ length (lines text) + 1))
    → ((text more : List ℕ) → HasRead job text
    → IfOk result (λ initial. lines (text ++ more) ≡ lines text ++ lines more))
    → IfOk result (λ initial. HasInitialGraph limit initial buffer before after)
open_has old job limit left before between after buffer at count (Err fault) low fed takes room few place reads inside places
    graph next joined = tt
open_has old job limit left before between after buffer at count (Ok initial) low fed takes room few place reads inside places
    graph next joined =
    let text = fed.text ++ take at (take count buffer) in
    let came = length-take-le count buffer room in
    let fed_now = length-take-le at (take count buffer) (omega (arith, place, came)) in
    let short : length (take at (take count buffer)) ≤ left = omega (arith, fed_now, few) in
    let read : HasRead job text = reads fed.text fed.read (omega (arith, low, fed.count, short)) in
    let last : take (initial.end - initial.at) (drop initial.at buffer) ≡ take (count - at) (drop at buffer) =
    ap₂ (λ k j. take (k - j) (drop j buffer)) places.1 places.0 in
    record {
      text = text;
      few = omega (arith, fed.count, short, length-append fed.text (take at (take count buffer)));
      is_graph = graph text read;
      tight = inside;
      number = next text read;
      joined = λ other more. joined text more read;
      taken =
          subst (λ bytes. Consumes before after bytes)
          (sym (ap (λ bytes. text ++ bytes) last ∙ split_last fed.text buffer at count place))
          (Consumes-trans before between after fed.text (take count buffer) fed.taken takes);
      ended = λ is. absurd (let other = places.2 in cc);
    }

-- what is so of a reader's text is so of what it gives
pub by_text : (job : JobReader) (limit left : ℕ) (before after : Option (List ℕ)) (result : Result InitialGraph Fault)
    → IsFed job limit left before after
    → ((text : List ℕ) → HasRead job text → IfOk result (λ initial. IsWithinLimits (content_of initial.graph)))
    → IfOk result (λ initial. IsWithinLimits (content_of initial.graph))
by_text job limit left before after result fed within = within fed.text fed.read

pub open_within : (old job : JobReader) (limit left : ℕ) (before between : Option (List ℕ)) (buffer : List ℕ)
    (at count : ℕ) (result : Result InitialGraph Fault)
    → limit ≤ 2 ^ 36 → IsFed old limit left before between → count ≤ length buffer → at ≤ left → at ≤ count
    → Reads old job (take at (take count buffer))
    → ((text : List ℕ) → HasRead job text → IfOk result (λ initial. IsWithinLimits (content_of initial.graph)))
    → IfOk result (λ initial. IsWithinLimits (content_of initial.graph))
open_within old job limit left before between buffer at count result low fed room few place reads within =
    let came = length-take-le count buffer room in
    let fed_now = length-take-le at (take count buffer) (omega (arith, place, came)) in
    let short : length (take at (take count buffer)) ≤ left = omega (arith, fed_now, few) in
    within (fed.text ++ take at (take count buffer)) (reads fed.text fed.read (omega (arith, low, fed.count, short)))

-- more was taken and fed by several threads
pub fed_by_threads : (old new : JobReader) (limit left count missing : ℕ) (before between after : Option (List ℕ))
    → limit ≤ 2 ^ 36 → IsFed old limit left before between → Feeds left count old new between after
    → ((text more : List ℕ) → HasRead new text → 0 < missing → 0 < length more → length (lines more) ≤ missing
    → HasNoGraphInside (text ++ more))
    → 0 < missing
    → IsFed new limit (left - count) before after
fed_by_threads old new limit left count missing before between after low fed feeds inside some =
    let text = fed.text ++ feeds.text in
    let read : HasRead new text = feeds.reads fed.text fed.read (omega (arith, low, fed.count, feeds.size, feeds.few)) in
    subst (λ k. IsFed new limit (left - k) before after) feeds.size
    (fed_all old new limit left before between after feeds.text low fed feeds.taken feeds.reads
    (omega (arith, feeds.size, feeds.few))
    (lacking_inside text (inside text (0 ∷ []) read some (omega arith) (omega (arith, some)))))
