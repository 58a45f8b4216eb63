use Rattle.std.proofs.Common.{◌≡◌, ◌++◌, List, ℕ, Bool, Option, true, false, is_some, length, ap, sym, ◌∙◌, subst, arith, length-append}
use Rattle.dimacs_text.specs.declared.fault.LineKind.{LineKind}
use Rattle.dimacs_text.specs.Lines.{begins_comment}
use Rattle.dimacs_text.specs.Reading.{Keeps}
use Rattle.dimacs_text.specs.reader.FastArc.{HasNoFeed}
use Rattle.dimacs_text.proofs.ReaderLemmas.{comment_begun, comment_longer, fault_stays, keeps_more}
use Rattle.dimacs_text.proofs.reader.JobReader.keep.Goals as goal

pub returns-then-is_some : goal.returns-then-is_some
returns-then-is_some c = record {
  reads = λ text r few.
      fault_stays c.args.self.now text c.args.bytes.now (sym c.is_some.ensures ∙ c.if-is_some.true) r few;
}

pub returns-then-self : goal.returns-then-self
returns-then-self c =
    let old = c.args.self.now in
    let bytes = c.args.bytes.now in
    record {
      reads = λ text r few.
          record {
            short = omega (arith, few, length-append text bytes);
            whole = r.whole;
            lines = r.lines;
            keeps =
                subst (λ inside. Keeps old.lines.fault inside r.whole old.unfinished.items (text ++ bytes))
                (sym c.if-self.true)
                (comment_longer old.lines.fault r.whole old.unfinished.items text bytes
                (sym c.is_some.ensures ∙ c.if-is_some.false) c.requires.open
                (subst (λ inside. Keeps old.lines.fault inside r.whole old.unfinished.items text) c.if-self.true r.keeps));
          };
    }

-- with the bytes that came
kept_with : (o : Option LineKind) (inside : Bool) (whole kept text bytes now : List ℕ)
    → is_some o ≡ false → inside ≡ false → HasNoFeed bytes 0 (length bytes) → now ≡ kept ++ bytes
    → Keeps o inside whole kept text
    → Keeps o false whole now (text ++ bytes)
kept_with o inside whole kept text bytes now none outside free is keeps =
    subst (λ all. Keeps o false whole all (text ++ bytes)) (sym is)
    (keeps_more o whole kept text bytes none free (subst (λ test. Keeps o test whole kept text) outside keeps))

pub returns-then-not-begins_comment : goal.returns-then-not-begins_comment
returns-then-not-begins_comment c =
    let old = c.args.self.now in
    let bytes = c.args.bytes.now in
    record {
      reads = λ text r few.
          record {
            short = omega (arith, few, length-append text bytes);
            whole = r.whole;
            lines = r.lines;
            keeps =
                subst
                (λ inside. Keeps old.lines.fault inside r.whole c.extend_from_slice.new.self.items (text ++ bytes))
                (sym c.if-self.false) (kept_with old.lines.fault old.in_comment r.whole old.unfinished.items text bytes
                c.extend_from_slice.new.self.items (sym c.is_some.ensures ∙ c.if-is_some.false) c.if-self.false
                c.requires.open c.in_ok-extend_from_slice.ensures.items r.keeps);
          };
    }

pub returns : goal.returns
returns c =
    let old = c.args.self.now in
    let bytes = c.args.bytes.now in
    record {
      reads = λ text r few.
          record {
            short = omega (arith, few, length-append text bytes);
            whole = r.whole;
            lines = r.lines;
            keeps =
                subst (λ kept. Keeps old.lines.fault true r.whole kept (text ++ bytes)) (sym c.clear.ensures.items)
                (comment_begun old.lines.fault r.whole c.extend_from_slice.new.self.items (text ++ bytes)
                (sym c.is_some.ensures ∙ c.if-is_some.false) (ap (λ l. begins_comment l) (sym c.deref.ensures.value) ∙ c.if-not-begins_comment.ensures) (kept_with old.lines.fault old.in_comment r.whole old.unfinished.items text bytes
                c.extend_from_slice.new.self.items (sym c.is_some.ensures ∙ c.if-is_some.false) c.if-self.false
                c.requires.open c.in_ok-extend_from_slice.ensures.items r.keeps));
          };
    }
