use Rattle.std.proofs.Common.{◌∙◌, ℕ, arith, length-set, refl, true}
use Rattle.std.proofs.lemmas.List.{take_all}
use Rattle.csr_graph.proofs.Removals.{mark_one, skip_one}
use Rattle.csr_graph.proofs.changes.mark_removed.Goals.{then-place-marks, else-place-marks}
use Rattle.csr_graph.proofs.changes.mark_removed.Goals as goal

pub loop-tail-preserved : goal.loop-tail-preserved
loop-tail-preserved c =
    let was = c.loop-tail.invariant in
    let tail = λ (pair : ℕ × ℕ). pair.0 in
    elim c.if-place-marks.branch [
      | then-place-marks w ↦
          rw w.marks-is (record {
            places = length-set c.loop-tail.marks _ true ∙ was.places;
            marked =
                mark_one tail c.args.pairs.now c.loop-tail.marks c.loop-tail.tail-index _ (0, 0) c.loop-tail-test.true
                refl w.if-place-marks.true was.marked;
          })
      | else-place-marks w ↦
          rw w.marks-is (record {
            places = was.places;
            marked =
                skip_one tail c.args.pairs.now c.loop-tail.marks c.loop-tail.tail-index (0, 0) c.loop-tail-test.true
                (omega (arith, w.if-place-marks.false)) was.marked;
          })
    ]

pub returns-clause-marked : goal.returns-clause-marked
returns-clause-marked c =
    rw (take_all c.loop-tail.tail-index c.args.pairs.now (omega (arith, c.loop-tail-test.false)))
    at c.loop-tail.invariant.marked
