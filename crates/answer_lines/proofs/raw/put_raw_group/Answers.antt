use Rattle.std.proofs.Common.{arith, ◌∙◌}
use Rattle.std.proofs.lemmas.Slice.{overwrites}
use Rattle.answer_lines.proofs.Making.{raw_more}
use Rattle.answer_lines.proofs.raw.put_raw_group.Goals as goal

pub loop-label-preserved : goal.loop-label-preserved
loop-label-preserved c =
    let l = c.loop-label in
    record {
      made =
          raw_more l.bytes c.args.labels.now _ l.label-index l.end _ l.invariant.made (omega arith) (omega arith)
          (c.copy_from_slice.ensures.after ∙ c.to_le_bytes.ensures);
      place = omega arith;
      size = search (arith, overwrites);
    }
