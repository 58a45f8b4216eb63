use Rattle.std.proofs.Common.{◌∙◌, ◌++◌, [], ◌∷◌, ap, sym, get_or, take, arith, append_assoc}
use Rattle.csr_graph.specs.Removal.{unkeyed}
use Rattle.csr_graph.proofs.Facts.{no_target}
use Rattle.csr_graph.proofs.Removals.{one_left, one_removed}
use Rattle.csr_graph.proofs.changes.put_unkeyed.Goals.{then-not-is_keyed+in_ok-push, else-not-is_keyed}
use Rattle.csr_graph.proofs.changes.put_unkeyed.Goals as goal

pub loop-target-preserved : goal.loop-target-preserved
loop-target-preserved c rising =
    let row = c.args.row.now in
    let keys = c.args.keys.now in
    let tail = c.args.tail in
    let i = c.loop-target.target-index in
    let target = get_or row i no_target in
    let front = c.args.targets.now.items in
    let told = c.is_keyed.ensures rising target.weight in
    elim c.if-not-is_keyed.branch [
      | then-not-is_keyed+in_ok-push w ↦
          ap (λ targets. targets.items) w.targets-is
          ∙ w.in_ok-push.ensures.items
          ∙ ap (λ items. items ++ target ∷ []) (c.loop-target.invariant rising)
          ∙ append_assoc front (unkeyed keys tail (take i row)) (target ∷ [])
          ∙ ap (λ items. front ++ items)
          (sym (one_left keys tail row i c.loop-target-test.true (grind (arith, told, w.if-not-is_keyed.true))))
      | else-not-is_keyed w ↦
          ap (λ targets. targets.items) w.targets-is
          ∙ c.loop-target.invariant rising
          ∙ ap (λ items. front ++ items)
          (sym (one_removed keys tail row i c.loop-target-test.true (grind (arith, told, w.if-not-is_keyed.false))))
    ]
