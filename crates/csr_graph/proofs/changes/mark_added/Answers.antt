use Rattle.std.proofs.Common.{◌∙◌, arith, length-set, refl, true}
use Rattle.std.proofs.lemmas.List.{take_all}
use Rattle.route_walks.specs.declared.graph.ArcRec.{ArcRec}
use Rattle.csr_graph.proofs.Facts.{no_arc}
use Rattle.csr_graph.proofs.Removals.{kept_marks, mark_one, skip_one}
use Rattle.csr_graph.proofs.changes.mark_added.Goals.{then-place-marks, else-place-marks}
use Rattle.csr_graph.proofs.changes.mark_added.Goals as goal

pub loop-arc-preserved : goal.loop-arc-preserved
loop-arc-preserved c =
    let was = c.loop-arc.invariant in
    let tail = λ (arc : ArcRec). arc.tail in
    elim c.if-place-marks.branch [
      | then-place-marks w ↦
          rw w.marks-is (record {
            places = length-set c.loop-arc.marks _ true ∙ was.places;
            kept = λ u is. kept_marks c.loop-arc.marks _ w.if-place-marks.true u (was.kept u is);
            marked =
                mark_one tail c.args.arcs.now c.loop-arc.marks c.loop-arc.arc-index _ no_arc c.loop-arc-test.true
                refl w.if-place-marks.true was.marked;
          })
      | else-place-marks w ↦
          rw w.marks-is (record {
            places = was.places;
            kept = was.kept;
            marked =
                skip_one tail c.args.arcs.now c.loop-arc.marks c.loop-arc.arc-index no_arc c.loop-arc-test.true
                (omega (arith, w.if-place-marks.false)) was.marked;
          })
    ]

pub returns-clause-marked : goal.returns-clause-marked
returns-clause-marked c =
    rw (take_all c.loop-arc.arc-index c.args.arcs.now (omega (arith, c.loop-arc-test.false)))
    at c.loop-arc.invariant.marked
