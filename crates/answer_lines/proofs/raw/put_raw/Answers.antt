use Rattle.std.proofs.Common.{◌≡◌, List, ℕ, ◌++◌, length, sym, ap, ap₂, ◌∙◌, length-append, arith}
use Rattle.std.proofs.lemmas.List.{take-append-drop}
use Rattle.answer_lines.specs.Raw.{raw_labels}
use Rattle.answer_lines.proofs.Making.{accepted, cut_back, group_put, refused}
use Rattle.answer_lines.proofs.Facts.{raw_labels-append}
use Rattle.answer_lines.proofs.raw.put_raw.Goals as goal

pub loop-rest-preserved : goal.loop-rest-preserved
loop-rest-preserved c =
    let inv = c.loop-rest.invariant in
    let group = c.split_at.result.0.now in
    let rest = c.split_at.result.1.now in
    let parts : c.loop-rest.rest.now ≡ group ++ rest =
    sym (ap₂ (λ (xs ys : List ℕ). xs ++ ys) c.split_at.ensures.front c.split_at.ensures.back
    ∙ take-append-drop c.min.result c.loop-rest.rest.now) in
    let put : c.put_raw_group.new.out.items ≡ c.loop-rest.out.items ++ raw_labels group =
    accepted c.put_raw_group.result (sym c.is_err.ensures.value ∙ c.if-is_err.false) c.put_raw_group.ensures.ok in
    record {
      whole = group_put (λ _. raw_labels) (λ _. raw_labels-append) 0 _ group rest put parts inv.whole;
      longer = omega (arith, inv.longer, ap length put, length-append c.loop-rest.out.items (raw_labels group));
      before = inv.before;
      room = c.put_raw_group.ensures.room;
    }

pub returns-then-is_err-clause-err : goal.returns-then-is_err-clause-err
returns-then-is_err-clause-err c =
    let inv = c.loop-rest.invariant in
    cut_back _ _ c.truncate.ensures.items
    (refused c.put_raw_group.result (sym c.is_err.ensures.value ∙ c.if-is_err.true) c.put_raw_group.ensures.err) inv.whole
    inv.longer inv.before
