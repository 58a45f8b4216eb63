use Rattle.std.proofs.Common.{◌≡◌, true, cond, Result, Ok, Err, is_ok, is_err, sym, ◌∙◌}
use Rattle.answer_lines.proofs.Making.{refused, cut_back}
use Rattle.answer_lines.proofs.walks.put_vertices.Goals as goal

-- what is chosen where a call was refused
at_refusal : {T E X : Type 0} (r : Result T E) (x y z : X) → is_err r ≡ true → z ≡ cond (is_ok r) x y → z ≡ y
at_refusal (Ok v) x y z e is = absurd (cc)
at_refusal (Err v) x y z e is = is

pub returns-then-is_err-clause-err : goal.returns-then-is_err-clause-err
returns-then-is_err-clause-err c =
    let inv = c.loop-vertex.invariant in
    cut_back _ _ c.truncate.ensures.items
    (refused c.put_vertex.result (sym c.is_err.ensures.value ∙ c.if-is_err.true) c.put_vertex.ensures.err) inv.whole
    inv.longer inv.before

pub returns-then-is_err-2-clause-err : goal.returns-then-is_err-2-clause-err
returns-then-is_err-2-clause-err c =
    let inv = c.loop-vertex.invariant in
    cut_back _ _ c.truncate-then-is_err-2.ensures.items
    (at_refusal c.push.result _ _ _ (sym c.is_err-2.ensures.value ∙ c.if-is_err-2.true) c.push.ensures.items) inv.whole
    inv.longer inv.before
