-- A text that is read in pieces, and how much of its limit is left.
use Rattle.std.proofs.Common.{◌≡◌, ℕ, ◌+◌, ◌-◌, ◌≤◌, ◌^◌, List, [], ◌++◌, length, take, Option, Bool, subst, sym, ap}
use Rattle.std.proofs.Common.{◌∙◌, arith}
use Rattle.std.proofs.Common.{◌⊎◌, inl, inr, append_assoc, append-nil, refl, Result, Ok, Err, IfErr}
use Rattle.std.specs.Io.KnownBytes.{Consumes}
use Rattle.std.proofs.lemmas.List.{nil_from_length, length-append, length-take-le, take-append-le}
use Rattle.std.proofs.Math.Seq.{take-append-add}
use borrow.Rule.Slice.PartMut.{post_of, put_mid}
use Rattle.dimacs_text.specs.declared.reader.JobReader.{JobReader}
use Rattle.dimacs_text.specs.Reading.{HasRead, Reads}
use Rattle.dimacs_text.specs.Faults.{IsFaultOf}
use Rattle.dimacs_text.specs.declared.fault.TextFault.{TextFault}
use Rattle.dimacs_text.specs.declared.fault.TextFault.TheVariants.{Memory, Line}
use Rattle.job_reader.specs.declared.fault.ReadFault.{ReadFault}
use Rattle.job_reader.specs.declared.fault.ReadFault.TheVariants as fault
use Rattle.job_reader.specs.Pieces.{Feeds, StepsOn, StopsShort}
use Rattle.job_reader.specs.Request.{HasTaken, SaysOfText, fault_of}
use Rattle.job_reader.specs.Taken.{TakesAtMost, TakesOneMore, TakesWhole}
use Rattle.std.proofs.KnownBytes.{Consumes-trans}

-- the reader of the job has read all that was taken but the pieces; `left` bytes may still come
pub record IsFed (reader : JobReader) (at_hand : List ℕ) (limit left : ℕ) (before after : Option (List ℕ))
    : Type 0 where
  pub text : List ℕ
  pub read : HasRead reader text
  pub taken : Consumes before after (text ++ at_hand)
  pub count : length (text ++ at_hand) + left ≡ limit

-- the first piece was fed, and another was taken
pub fed-on : (old new : JobReader) (limit left most : ℕ) (before between after : Option (List ℕ))
    (front back next : List ℕ) (ended : Bool)
    → limit ≤ 2 ^ 36 → IsFed old (front ++ back) limit left before between
    → StepsOn most old new front next between after ended → length next ≤ left
    → IsFed new (back ++ next) limit (left - length next) before after
fed-on old new limit left most before between after front back next ended low fed on few =
    let order : (fed.text ++ (front ++ back)) ++ next ≡ (fed.text ++ front) ++ (back ++ next) =
    simp append_assoc refl in
    record {
      text = fed.text ++ front;
      read =
          on.reads fed.text fed.read
          (omega (
            arith,
            low,
            fed.count,
            length-append fed.text (front ++ back),
            length-append front back,
          ));
      taken = subst (λ l. Consumes before after l) order (Consumes-trans before between after _ next fed.taken on.fills.taken);
      count =
          omega (
            arith,
            few,
            fed.count,
            ap (λ l. length l) order,
            length-append (fed.text ++ (front ++ back)) next,
          );
    }

-- both pieces were fed
pub fed-both : (old between new : JobReader) (limit left : ℕ) (before after : Option (List ℕ)) (front back : List ℕ)
    → limit ≤ 2 ^ 36 → IsFed old (front ++ back) limit left before after
    → Reads old between front → Reads between new back
    → IsFed new [] limit left before after
fed-both old between new limit left before after front back low fed first second =
    let order : fed.text ++ (front ++ back) ≡ ((fed.text ++ front) ++ back) ++ [] =
    sym (append-nil ((fed.text ++ front) ++ back) ∙ append_assoc fed.text front back) in
    let all = length-append fed.text (front ++ back) in
    let both = length-append front back in
    record {
      text = (fed.text ++ front) ++ back;
      read =
          second (fed.text ++ front) (first fed.text fed.read (omega (arith, low, fed.count, all, both)))
          (omega (arith, low, fed.count, all, both, length-append fed.text front));
      taken = subst (λ l. Consumes before after l) order fed.taken;
      count = omega (arith, fed.count, ap (λ l. length l) order);
    }

-- or a byte more was taken than is left
pub fed-full : (reader : JobReader) (at_hand : List ℕ) (limit left : ℕ) (before between after : Option (List ℕ))
    (next : List ℕ)
    → IsFed reader at_hand limit left before between → Consumes between after next → length next ≡ left + 1
    → TakesOneMore limit before after
fed-full reader at_hand limit left before between after next fed more long = record {
  bytes = (fed.text ++ at_hand) ++ next;
  taken = Consumes-trans before between after (fed.text ++ at_hand) next fed.taken more;
  count = omega (arith, length-append (fed.text ++ at_hand) next, fed.count);
}

-- or it stopped short of what is left
pub fed-short : (reader : JobReader) (at_hand : List ℕ) (limit left most : ℕ)
    (before between after : Option (List ℕ)) (kind : ReadFault)
    → IsFed reader at_hand limit left before between → StopsShort most between after kind → most ≤ left
    → HasTaken limit before after kind × SaysOfText before after kind
fed-short reader at_hand limit left most before between after kind fed short low =
    let taken : TakesAtMost limit before after =
    record {
      bytes = (fed.text ++ at_hand) ++ short.taken.bytes;
      taken = Consumes-trans before between after (fed.text ++ at_hand) short.taken.bytes fed.taken short.taken.taken;
      few = omega (arith, length-append (fed.text ++ at_hand) short.taken.bytes, fed.count, short.taken.few, low);
    } in
    by_kind short.only taken
  where
    by_kind : (kind ≡ fault.Read) ⊎ (kind ≡ fault.Memory) → TakesAtMost limit before after
        → HasTaken limit before after kind × SaysOfText before after kind
    by_kind (inl is) taken = rw is (taken, tt)
    by_kind (inr is) taken = rw is (taken, tt)

-- what is said of a fault of the whole text
pub text-says : (before after : Option (List ℕ)) (text : List ℕ) (fault : TextFault) → TakesWhole before after text
    → IsFaultOf text fault → SaysOfText before after (fault_of fault)
text-says before after text Memory whole says = tt
text-says before after text (Line line kind) whole says = record { text = text; whole = whole; first = says }

-- the front of a buffer after a write behind what was filled
pub take-filled : (filled room count : ℕ) (buffer part : List ℕ) → filled ≤ length buffer → count ≤ length part
    → take (filled + count) (put_mid filled room buffer part) ≡ take filled buffer ++ take count part
take-filled filled room count buffer part inside few =
    ap (λ n. take (n + count) (put_mid filled room buffer part)) (sym (length-take-le filled buffer inside))
    ∙ take-append-add (take filled buffer) (part ++ post_of filled room buffer) count
    ∙ ap (λ l. take filled buffer ++ l) (take-append-le count part (post_of filled room buffer) few)

-- ---- of a text that was begun before

-- the reader of the job has read on all that was taken but the pieces; `left` bytes may still come
pub record IsFedOn (old new : JobReader) (at_hand : List ℕ) (limit left : ℕ) (before after : Option (List ℕ))
    : Type 0 where
  pub text : List ℕ
  pub reads : Reads old new text
  pub taken : Consumes before after (text ++ at_hand)
  pub count : length (text ++ at_hand) + left ≡ limit

-- the first piece was fed, and another was taken
pub fed-further : (old job new : JobReader) (limit left most : ℕ) (before between after : Option (List ℕ))
    (front back next : List ℕ) (ended : Bool)
    → IsFedOn old job (front ++ back) limit left before between
    → StepsOn most job new front next between after ended → length next ≤ left
    → IsFedOn old new (back ++ next) limit (left - length next) before after
fed-further old job new limit left most before between after front back next ended fed on few =
    let order : (fed.text ++ (front ++ back)) ++ next ≡ (fed.text ++ front) ++ (back ++ next) =
    simp append_assoc refl in
    record {
      text = fed.text ++ front;
      reads =
          λ text read short.
          let all = length-append fed.text front in
          subst (λ l. HasRead new l) (append_assoc text fed.text front)
          (on.reads (text ++ fed.text) (fed.reads text read (omega (arith, short, all)))
          (omega (arith, short, all, length-append text fed.text)));
      taken = subst (λ l. Consumes before after l) order (Consumes-trans before between after _ next fed.taken on.fills.taken);
      count =
          omega (
            arith,
            few,
            fed.count,
            ap (λ l. length l) order,
            length-append (fed.text ++ (front ++ back)) next,
          );
    }

-- no piece is at hand
pub fed-whole : (old new : JobReader) (front back : List ℕ) (limit left : ℕ) (before after : Option (List ℕ))
    → IsFedOn old new (front ++ back) limit left before after → length front ≡ 0 → length back ≡ 0
    → Feeds limit (limit - left) old new before after
fed-whole old new front back limit left before after fed none nothing =
    let all : fed.text ++ (front ++ back) ≡ fed.text =
    rw (nil_from_length front none, nil_from_length back nothing) (append-nil fed.text) in
    record {
      text = fed.text;
      taken = subst (λ l. Consumes before after l) all fed.taken;
      reads = fed.reads;
      size = omega (arith, fed.count, ap (λ l. length l) all);
      few = omega arith;
    }

-- or it stopped short of what is left
pub fed-least : (old new : JobReader) (at_hand : List ℕ) (limit left : ℕ) (before between after : Option (List ℕ))
    → IsFedOn old new at_hand limit left before between → TakesAtMost left between after
    → TakesAtMost limit before after
fed-least old new at_hand limit left before between after fed short = record {
  bytes = (fed.text ++ at_hand) ++ short.bytes;
  taken = Consumes-trans before between after (fed.text ++ at_hand) short.bytes fed.taken short.taken;
  few = omega (arith, length-append (fed.text ++ at_hand) short.bytes, fed.count, short.few);
}

-- what is so is so of each fault
pub on-fault : {T E P : Type 0} → P → (r : Result T E) → IfErr r (λ _. P)
on-fault p (Ok x) = tt
on-fault p (Err e) = p
