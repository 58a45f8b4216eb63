use Rattle.std.proofs.Common.{slice_index, subst, arith}
use Rattle.std.specs.Prelude.{All}
use Rattle.std.proofs.lemmas.List.{take_all}
use Rattle.std.proofs.lemmas.List.Elements.{All-more}
use Rattle.csr_graph.specs.declared.target.Target.{Target}
use Rattle.csr_graph.proofs.Facts.{no_target}
use Rattle.near_labels.specs.UpDown.{HasUpDown}
use Rattle.hierarchy.proofs.bridges.is_row_kept.Goals as goal

pub loop-target-preserved : goal.loop-target-preserved
loop-target-preserved c =
    let parts = c.args.parts.now in
    let place = slice_index parts.places.items in
    record {
      room = omega (arith, c.is_arc_kept.ensures.probe, c.loop-target.invariant.room);
      kept =
          All-more
          (λ (target : Target). HasUpDown parts.up.arcs parts.down.arcs (place c.args.u) (place target.head) target.weight)
          c.args.row.now c.loop-target.target-index no_target c.loop-target-test.true c.loop-target.invariant.kept
          (c.is_arc_kept.ensures.kept c.if-not-is_arc_kept.false);
    }

pub returns-clause-kept : goal.returns-clause-kept
returns-clause-kept c =
    let parts = c.args.parts.now in
    let place = slice_index parts.places.items in
    λ _.
    subst
    (All (λ (target : Target). HasUpDown parts.up.arcs parts.down.arcs (place c.args.u) (place target.head) target.weight))
    (take_all c.loop-target.target-index c.args.row.now c.loop-target-test.false) c.loop-target.invariant.kept
