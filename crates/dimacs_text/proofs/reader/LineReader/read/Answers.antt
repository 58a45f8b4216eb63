use Rattle.std.proofs.Common.{◌+◌, ◌^◌, ◌<◌, ◌++◌, length, length-append, sym, subst, ◌∙◌, arith}
use Rattle.dimacs_text.specs.Explaining.{Explains}
use Rattle.dimacs_text.specs.Faults.{IsFaultOf}
use Rattle.dimacs_text.specs.Reading.{HasReadBy}
use Rattle.dimacs_text.proofs.ReaderLemmas.{nothing_wrong, read_before}
use Rattle.dimacs_text.proofs.reader.LineReader.read.Goals as goal

pub returns-in-Ok : goal.returns-in-Ok
returns-in-Ok c =
    let old = c.args.self.now in
    let bytes = c.args.bytes.now in
    let none = sym c.is_some.ensures ∙ c.if-is_some.false in
    record {
      reads = λ text r few.
          let before = read_before old.fault old.draft old.line text bytes none r in
          let room : old.line + length bytes < 2 ^ 64 = omega (arith, before.0, few) in
          let reads = c.in-Ok.ensures.reads room in
          subst (λ f. HasReadBy f c.read_lines.new.self c.in-Ok.next (text ++ bytes))
          (sym (nothing_wrong old.fault none)) (
            omega (arith, before.0, reads.1, length-append text bytes),
            λ more. reads.0 ((text ++ bytes) ++ more) more (before.1 more),
          );
    }

pub returns-in-Err-Line : goal.returns-in-Err-Line
returns-in-Err-Line c =
    let old = c.args.self.now in
    let bytes = c.args.bytes.now in
    let explanation = c.read_lines.new.self.explanation in
    record {
      reads = λ text r few more.
          let before =
          read_before old.fault old.draft old.line text bytes (sym c.is_some.ensures ∙ c.if-is_some.false) r in
          let room : old.line + length bytes < 2 ^ 64 = omega (arith, before.0, few) in
          let whole = (text ++ bytes) ++ more in (
            subst (λ f. IsFaultOf whole f) c.in-Err-Line.field-0-is
                (c.in-Err-Line.ensures.fault room whole more (before.1 more)),
            subst (λ f. Explains whole f explanation) c.in-Err-Line.field-0-is
                (c.in-Err-Line.ensures.explained room whole more (before.1 more)),
          );
    }
