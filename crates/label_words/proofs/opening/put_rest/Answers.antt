-- No more marks than vertices are counted.
use Rattle.std.proofs.Common.{arith, ◌≤◌, inl, inr}
use Rattle.std.proofs.lemmas.Bool.{cases_Bool}
use Rattle.relax_core.specs.State.{mark_of as is_marked}
use Rattle.relax_core.proofs.Facts.{marks_le}
use Rattle.label_words.proofs.opening.put_rest.Goals as goal

pub overflow_add-total : goal.overflow_add-total
overflow_add-total c =
    let v = c.loop-v.v in
    let few : c.from-mark.result ≤ 1 = elim (cases_Bool (is_marked c.args.marks.now v)) [
      | inl marked ↦ let is = rw marked at c.from-mark.ensures in omega (arith, is)
      | inr unmarked ↦ let is = rw unmarked at c.from-mark.ensures in omega (arith, is)
    ] in
    omega (arith, few, c.loop-v.invariant.total, marks_le (is_marked c.args.marks.now) v)
