-- What the loop over the seeds leaves is the opening, and the opening is lawful.
use Rattle.std.proofs.Common.{◌∙◌, ap, [], ◌∷◌, arith}
use Rattle.std.specs.Prelude.{Bool, count_by}
use Rattle.std.proofs.lemmas.List.{with_items_is}
use Rattle.relax_core.specs.declared.views.View.{View}
use Rattle.relax_core.proofs.Opening.{opening_of, opening_lawful}
use Rattle.relax_core.proofs.state.open_core.Goals as goal

pub returns : goal.returns
returns c =
    let opens =
    opening_of c.args.csr.now c.args.seeds.now c.start.new.labels c.start.new.marks
    c.count_marks-total.result c.in_ok-views.views.items c.in_ok-labels.labels c.in_ok-marks.marks
    (omega (arith, c.in_ok-labels.ensures.len)) (omega (arith, c.in_ok-marks.ensures.len)) (omega arith) (omega arith)
    c.start.ensures
    (c.count_marks-total.ensures
    ∙ ap (count_by (λ (mark : Bool). mark))
    (c.deref.ensures.value ∙ with_items_is c.in_ok-marks.marks c.start.new.marks (omega arith)))
    (c.in_ok-views.ensures.items ∙ ap (λ (v : View). v ∷ []) c.idle.ensures) in
    let lawful = opening_lawful _ _ _ c.n-n.ensures.in_rows opens in
    record { opening = opens; lawful = lawful; belongs = (c.args.seeds.now, lawful) }
