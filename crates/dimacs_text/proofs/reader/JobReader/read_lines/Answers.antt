use Rattle.std.proofs.Common.{◌≡◌, ◌++◌, false, sym, ap, ap₂, refl, subst, ◌∙◌, take-append-drop, length, length-append, arith}
use Rattle.std.proofs.Common.{append_assoc}
use Rattle.std.proofs.lemmas.Result.{on_ok_weaker}
use Rattle.dimacs_text.specs.Reading.{HasReadLines, Keeps}
use Rattle.dimacs_text.proofs.ReaderLemmas.{nothing_kept}
use Rattle.dimacs_text.proofs.reader.JobReader.read_lines.Goals as goal

pub returns : goal.returns
returns c =
    let end = c.split_at.result.0.now in
    let rest = c.split_at.result.1.now in
    let all = c.args.lines.now in
    let fault = c.read.new.self.fault in
    let unfinished = c.end_line.new.self.unfinished.items in
    let parts : all ≡ end ++ rest =
    sym (ap₂ (λ l t. l ++ t) c.split_at.ensures.front c.split_at.ensures.back ∙ take-append-drop _ all) in
    let count = ap (λ l. length l) parts ∙ length-append end rest in
    record {
      reads = on_ok_weaker c.read.result
          (λ second text r few.
          let whole = text ++ all in
          let before = c.in_ok-end_line.ensures.reads text r (omega (arith, few, count)) in
          record {
            short = let len = length-append text all in omega (arith, few, len);
            whole = whole;
            lines =
                subst (λ bytes. HasReadLines c.read.new.self bytes)
                (append_assoc text end rest ∙ ap (λ l. text ++ l) (sym parts))
                (second (text ++ end) before (let len = length-append text end in omega (arith, few, count, len)));
            keeps =
                subst (λ inside. Keeps fault inside whole unfinished whole) (sym c.in_ok-end_line.ensures.outside)
                (subst (λ kept. Keeps fault false whole kept whole) (sym (c.in_ok-end_line.ensures.kept text r))
                (nothing_kept fault whole whole refl));
          }) c.read.ensures.reads;
    }
