use Rattle.std.proofs.Common.{◌≡◌, ◌++◌, take-append-drop, ap₂, sym, subst, ◌∙◌}
use Rattle.std.proofs.lemmas.Result.{on_ok_weaker}
use Rattle.dimacs_text.specs.Reading.{Reads}
use Rattle.dimacs_text.proofs.ReaderLemmas.{fault_stays, reads_both}
use Rattle.dimacs_text.proofs.reader.JobReader.feed.Goals as goal

pub returns-then-is_some : goal.returns-then-is_some
returns-then-is_some c = record {
  reads = λ text r few.
      fault_stays c.args.self.now text c.args.bytes.now (sym c.is_some.ensures ∙ c.if-is_some.true) r few;
}

pub returns : goal.returns
returns c =
    let lines = c.split_at.result.0.now in
    let tail = c.split_at.result.1.now in
    let whole : lines ++ tail ≡ c.args.bytes.now =
    ap₂ (λ l t. l ++ t) c.split_at.ensures.front c.split_at.ensures.back ∙ take-append-drop _ c.args.bytes.now in
    record {
      reads = on_ok_weaker c.keep.result
          (λ keep.
          subst (λ b. Reads c.args.self.now c.keep.new.self b) whole
          (reads_both c.args.self.now c.read_lines.new.self c.keep.new.self lines tail
          c.in_ok-read_lines.ensures.reads keep)) c.keep.ensures.reads;
    }
