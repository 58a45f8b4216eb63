use Rattle.std.proofs.Common.{◌≡◌, List, ℕ, ◌++◌, length, sym, ap, ap₂, ◌∙◌, length-append, arith}
use Rattle.std.proofs.lemmas.List.{take-append-drop}
use Rattle.answer_lines.specs.Lines.{label_lines}
use Rattle.answer_lines.proofs.Making.{accepted, group_put}
use Rattle.answer_lines.proofs.Facts.{label_lines-append}
use Rattle.answer_lines.proofs.groups.put_labels.Goals as goal

pub loop-rest-preserved : goal.loop-rest-preserved
loop-rest-preserved c =
    let inv = c.loop-rest.invariant in
    let v = c.loop-rest.v in
    let group = c.split_at.result.0.now in
    let rest = c.split_at.result.1.now in
    let parts : c.loop-rest.rest.now ≡ group ++ rest =
    sym (ap₂ (λ (xs ys : List ℕ). xs ++ ys) c.split_at.ensures.front c.split_at.ensures.back
    ∙ take-append-drop c.group_len.result c.loop-rest.rest.now) in
    let put : c.put_label_group.new.out.items ≡ c.loop-rest.out.items ++ label_lines v group =
    accepted c.put_label_group.result (sym c.is_err.ensures.value ∙ c.if-is_err.false) c.put_label_group.ensures.ok in
    record {
      count = omega (arith, inv.count, ap length parts, length-append group rest);
      whole = group_put label_lines label_lines-append v _ group rest put parts inv.whole;
      longer = omega (arith, inv.longer, ap length put, length-append c.loop-rest.out.items (label_lines v group));
      before = inv.before;
      room = c.put_label_group.ensures.room;
    }
