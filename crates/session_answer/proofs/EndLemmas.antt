-- Which fault a session ends with.
use Rattle.std.proofs.Common.{◌≡◌, ◌∙◌, ◌+◌, ◌-◌, ◌^◌, ◌≤◌, ◌<◌, ℕ, List, [], ◌++◌, Option, Result, Ok, Err, IfErr, false, inl, inr, length, take, drop}
use Rattle.std.proofs.Common.{append_assoc, append-nil, arith, ap, length-append, length-drop, refl, subst, sym, take-append-drop}
use Rattle.std.proofs.lemmas.List.{length-take-le}
use Rattle.std.proofs.KnownBytes.{Consumes-trans}
use Rattle.std.specs.Io.KnownBytes.{Consumes, IsAtEnd}
use Rattle.dimacs_text.specs.GraphTexts.{HasGraph, HasNoGraphInside}
use Rattle.dimacs_text.specs.Lines.{lines}
use Rattle.dimacs_text.specs.Jobs.{content_of}
use Rattle.dimacs_text.specs.Reading.{HasRead, Reads}
use Rattle.dimacs_text.specs.declared.reader.JobReader.{JobReader}
use Rattle.job_answer.specs.declared.fault.Fault.{Fault}
use Rattle.job_answer.specs.declared.fault.Fault.TheVariants as fault
use Rattle.job_reader.specs.declared.fault.ReadFault.{ReadFault}
use Rattle.job_reader.specs.Pieces.{Feeds}
use Rattle.job_reader.specs.Request.{IsOfSystem}
use Rattle.job_answer.specs.Choices.{fault_of_reading}
use Rattle.job_answer.specs.Outcome.{IsWritingFault}
use Rattle.request_reader.specs.Requests.{AreShort}
use Rattle.session_answer.specs.declared.initial_graph.InitialGraph.{InitialGraph}
use Rattle.session_answer.specs.Conversations.{HasInitialGraph}
use Rattle.session_answer.specs.Cuts.{EndsAfterGraph, EndsBy, EndsShort, IsFaultOfGraph, MayFollow}
use Rattle.session_answer.proofs.InitialGraphLemmas.{IsFed}

-- a fault of writing says nothing of the text
pub writing_ends : (limit : ℕ) (taken_from taken_to : Option (List ℕ)) (kind : Fault) → IsWritingFault kind
    → EndsBy limit taken_from taken_to kind
writing_ends limit taken_from taken_to fault.Read is = absurd is
writing_ends limit taken_from taken_to fault.TooLong is = absurd is
writing_ends limit taken_from taken_to (fault.Text line kind) is = absurd is
writing_ends limit taken_from taken_to fault.NoAsk is = absurd is
writing_ends limit taken_from taken_to fault.NoSources is = absurd is
writing_ends limit taken_from taken_to fault.Memory is = tt
writing_ends limit taken_from taken_to fault.Spawn is = tt
writing_ends limit taken_from taken_to fault.Write is = tt

pub writing_ends_after : (n first : ℕ) (heard : List ℕ) (taken_from taken_to : Option (List ℕ)) (kind : Fault)
    → IsWritingFault kind
    → EndsAfterGraph n first heard taken_from taken_to kind
writing_ends_after n first heard taken_from taken_to fault.Read is = tt
writing_ends_after n first heard taken_from taken_to fault.TooLong is = absurd is
writing_ends_after n first heard taken_from taken_to (fault.Text line kind) is = absurd is
writing_ends_after n first heard taken_from taken_to fault.NoAsk is = is
writing_ends_after n first heard taken_from taken_to fault.NoSources is = is
writing_ends_after n first heard taken_from taken_to fault.Memory is = is
writing_ends_after n first heard taken_from taken_to fault.Spawn is = is
writing_ends_after n first heard taken_from taken_to fault.Write is = is

pub writing_is_short : (n first : ℕ) (all : List (List ℕ)) (kind : Fault) → IsWritingFault kind → EndsShort n first all kind
writing_is_short n first all fault.Read is = absurd is
writing_is_short n first all fault.TooLong is = absurd is
writing_is_short n first all (fault.Text line kind) is = absurd is
writing_is_short n first all fault.NoAsk is = is
writing_is_short n first all fault.NoSources is = is
writing_is_short n first all fault.Memory is = is
writing_is_short n first all fault.Spawn is = is
writing_is_short n first all fault.Write is = is

-- nor does a fault of the reader
pub system_ends : (limit : ℕ) (taken_from taken_to : Option (List ℕ)) (kind : ReadFault) → IsOfSystem kind
    → EndsBy limit taken_from taken_to (fault_of_reading kind)
system_ends limit taken_from taken_to kind (inl is) = rw is tt
system_ends limit taken_from taken_to kind (inr is) = rw is tt

-- at the end of what the reader gives
pub ends_short : (n first : ℕ) (heard more : List ℕ) (taken_from taken_to : Option (List ℕ)) (kind : Fault)
    → Consumes taken_from taken_to more → IsAtEnd taken_to → EndsShort n first (lines (heard ++ more)) kind
    → EndsAfterGraph n first heard taken_from taken_to kind
ends_short n first heard more taken_from taken_to fault.Read takes ended is = tt
ends_short n first heard more taken_from taken_to fault.TooLong takes ended is = absurd is
ends_short n first heard more taken_from taken_to (fault.Text line kind) takes ended is =
    (more, record { taken = takes; ended = ended }, is)
ends_short n first heard more taken_from taken_to fault.NoAsk takes ended is = is
ends_short n first heard more taken_from taken_to fault.NoSources takes ended is = is
ends_short n first heard more taken_from taken_to fault.Memory takes ended is = is
ends_short n first heard more taken_from taken_to fault.Spawn takes ended is = is
ends_short n first heard more taken_from taken_to fault.Write takes ended is = is

-- after a graph
pub after_graph_ends : (limit : ℕ) (initial : InitialGraph) (buffer : List ℕ) (taken_from between taken_to : Option (List ℕ))
    (kind : Fault)
    → limit ≤ 2 ^ 36 → HasInitialGraph limit initial buffer taken_from between → initial.has_ended ≡ false
    → EndsAfterGraph initial.graph.n initial.line (take (initial.end - initial.at) (drop initial.at buffer)) between taken_to kind
    → EndsBy limit taken_from taken_to kind
after_graph_ends limit initial buffer taken_from between taken_to fault.Read low has goes_on is = tt
after_graph_ends limit initial buffer taken_from between taken_to fault.TooLong low has goes_on is =
    let before = has.text ++ take (initial.end - initial.at) (drop initial.at buffer) in
    inr (record {
      bytes = before ++ is.bytes;
      taken = Consumes-trans taken_from between taken_to before is.bytes has.taken is.taken;
      many = omega (arith, is.many, length-append before is.bytes);
    })
after_graph_ends limit initial buffer taken_from between taken_to (fault.Text line kind) low has goes_on is =
    let heard = take (initial.end - initial.at) (drop initial.at buffer) in
    let more = is.0 in
    inr (record {
      text = has.text ++ (heard ++ more);
      whole = record {
        taken =
            subst (λ bytes. Consumes taken_from taken_to bytes) (append_assoc has.text heard more)
            (Consumes-trans taken_from between taken_to (has.text ++ heard) more has.taken is.1.taken);
        ended = is.1.ended;
      };
      initial = has.text;
      few = has.few;
      graph = content_of initial.graph;
      is_graph = has.is_graph;
      tight = has.tight;
      rest = lines (heard ++ more);
      parts = has.joined goes_on (heard ++ more);
      outcomes = is.2.0.0;
      short =
          subst (λ first. AreShort initial.graph.n first (lines (heard ++ more)) is.2.0.0 line) has.number
          is.2.0.1;
      kind_is = is.2.1;
    })
after_graph_ends limit initial buffer taken_from between taken_to fault.NoAsk low has goes_on is = is
after_graph_ends limit initial buffer taken_from between taken_to fault.NoSources low has goes_on is = is
after_graph_ends limit initial buffer taken_from between taken_to fault.Memory low has goes_on is = tt
after_graph_ends limit initial buffer taken_from between taken_to fault.Spawn low has goes_on is = tt
after_graph_ends limit initial buffer taken_from between taken_to fault.Write low has goes_on is = tt

-- each of so many reads took a byte at least
pub record TakesEach (count : ℕ) (before after : Option (List ℕ)) : Type 0 where
  pub bytes : List ℕ
  pub taken : Consumes before after bytes
  pub many : count ≤ length bytes

pub takes_more : (count : ℕ) (before between after : Option (List ℕ)) (next : List ℕ)
    → TakesEach count before between → Consumes between after next → 0 < length next
    → TakesEach (count + 1) before after
takes_more count before between after next is takes some = record {
  bytes = is.bytes ++ next;
  taken = Consumes-trans before between after is.bytes next is.taken takes;
  many = omega (arith, is.many, some, length-append is.bytes next);
}

-- what is said of a text within the limit, which was taken first, is said of what was taken
graph_fault_ends : (limit : ℕ) (before after : Option (List ℕ)) (text rest : List ℕ) (kind : Fault)
    → Consumes before after (text ++ rest) → length text ≤ limit
    → ((more : List ℕ) → (rest ≡ [] → MayFollow after more) → IsFaultOfGraph (text ++ more) kind)
    → EndsBy limit before after kind
graph_fault_ends limit before after text rest fault.Read takes few says = absurd (says [] (λ _ _. refl))
graph_fault_ends limit before after text rest fault.TooLong takes few says = absurd (says [] (λ _ _. refl))
graph_fault_ends limit before after text rest (fault.Text line what) takes few says =
    inl (record { text = text; rest = rest; taken = takes; few = few; first = says })
graph_fault_ends limit before after text rest fault.NoAsk takes few says = absurd (says [] (λ _ _. refl))
graph_fault_ends limit before after text rest fault.NoSources takes few says = absurd (says [] (λ _ _. refl))
graph_fault_ends limit before after text rest fault.Memory takes few says = tt
graph_fault_ends limit before after text rest fault.Spawn takes few says = absurd (says [] (λ _ _. refl))
graph_fault_ends limit before after text rest fault.Write takes few says = absurd (says [] (λ _ _. refl))

-- some of what was read last was fed, and the rest comes after it
fed_parts : (fed buffer : List ℕ) (at count : ℕ) (before between after : Option (List ℕ))
    → Consumes before between fed → Consumes between after (take count buffer)
    → Consumes before after ((fed ++ take at (take count buffer)) ++ drop at (take count buffer))
fed_parts fed buffer at count before between after taken takes =
    let came = take count buffer in
    subst (λ bytes. Consumes before after bytes)
    (ap (λ bytes. fed ++ bytes) (sym (take-append-drop at came)) ∙ sym (append_assoc fed (take at came) (drop at came)))
    (Consumes-trans before between after fed came taken takes)

-- the fault was found in what was read last, or before it
pub open_ends : (old job : JobReader) (limit left : ℕ) (before between after : Option (List ℕ)) (buffer : List ℕ)
    (at count : ℕ) (result : Result InitialGraph Fault)
    → limit ≤ 2 ^ 36 → IsFed old limit left before between → Consumes between after (take count buffer)
    → count ≤ length buffer → at ≤ left → at ≤ count → Reads old job (take at (take count buffer))
    → ((text more : List ℕ) → HasRead job text → IfErr result (IsFaultOfGraph (text ++ more)))
    → IfErr result (EndsBy limit before after)
open_ends old job limit left before between after buffer at count (Ok initial) low fed takes room few place reads says = tt
open_ends old job limit left before between after buffer at count (Err kind) low fed takes room few place reads says =
    let initial = take at (take count buffer) in
    let fed_now = length-take-le at (take count buffer) (omega (arith, place, length-take-le count buffer room)) in
    let read : HasRead job (fed.text ++ initial) = reads fed.text fed.read (omega (arith, low, fed.count, fed_now, few)) in
    graph_fault_ends limit before after (fed.text ++ initial) (drop at (take count buffer)) kind
    (fed_parts fed.text buffer at count before between after fed.taken takes)
    (omega (arith, fed.count, fed_now, few, length-append fed.text initial))
    (λ more may. says (fed.text ++ initial) more read)

-- it was found by threads
pub whole_ends : (job : JobReader) (old : JobReader) (limit left count : ℕ) (before between after : Option (List ℕ)) (kind : Fault)
    → limit ≤ 2 ^ 36 → IsFed old limit left before between → Feeds left count old job between after
    → ((text more : List ℕ) → HasRead job text → IsFaultOfGraph (text ++ more) kind)
    → EndsBy limit before after kind
whole_ends job old limit left count before between after kind low fed feeds says =
    let text = fed.text ++ feeds.text in
    let read : HasRead job text = feeds.reads fed.text fed.read (omega (arith, low, fed.count, feeds.size, feeds.few)) in
    graph_fault_ends limit before after text [] kind
    (subst (λ bytes. Consumes before after bytes) (sym (append-nil text))
    (Consumes-trans before between after fed.text feeds.text fed.taken feeds.taken))
    (omega (arith, fed.count, feeds.size, feeds.few, length-append fed.text feeds.text))
    (λ more may. says text more read)

-- the input has ended
pub ended_ends : (job : JobReader) (limit left : ℕ) (before between after : Option (List ℕ)) (buffer : List ℕ) (count : ℕ)
    (result : Result InitialGraph Fault)
    → IsFed job limit left before between → Consumes between after (take count buffer) → count ≡ 0 → IsAtEnd after
    → ((text : List ℕ) → HasRead job text → IfErr result (IsFaultOfGraph text))
    → IfErr result (EndsBy limit before after)
ended_ends job limit left before between after buffer count (Ok initial) fed takes none ended says = tt
ended_ends job limit left before between after buffer count (Err kind) fed takes none ended says =
    graph_fault_ends limit before after fed.text [] kind
    (subst (λ bytes. Consumes before after bytes) (ap (λ k. fed.text ++ take k buffer) none)
    (Consumes-trans before between after fed.text (take count buffer) fed.taken takes))
    (omega (arith, fed.count))
    (λ more may.
    subst (λ bytes. IsFaultOfGraph bytes kind)
    (sym (ap (λ bytes. fed.text ++ bytes) (may refl ended) ∙ append-nil fed.text)) (says fed.text fed.read))

-- more came than may, and all that may was fed
pub long_ends : (old job : JobReader) (limit left : ℕ) (before between after : Option (List ℕ)) (buffer : List ℕ)
    (at count : ℕ)
    → limit ≤ 2 ^ 36 → (fed : IsFed old limit left before between) → Consumes between after (take count buffer)
    → count ≤ length buffer → at ≡ left → left < count → Reads old job (take at (take count buffer))
    → (HasGraph job → ⊥) → HasNoGraphInside (fed.text ++ take at (take count buffer))
    → EndsBy limit before after fault.TooLong
long_ends old job limit left before between after buffer at count low fed takes room full many reads never inside =
    let initial = take at (take count buffer) in
    let came = length-take-le count buffer room in
    let fed_now = length-take-le at (take count buffer) (omega (arith, full, many, came)) in
    inl (record {
      text = fed.text ++ initial;
      rest = drop at (take count buffer);
      taken = fed_parts fed.text buffer at count before between after fed.taken takes;
      full = omega (arith, fed.count, fed_now, full, length-append fed.text initial);
      more = omega (arith, came, full, many, length-drop at (take count buffer));
      reader = job;
      read = reads fed.text fed.read (omega (arith, low, fed.count, fed_now, full));
      inside = inside;
      unfinished = never;
    })
