use Rattle.std.proofs.Common.{arith, slice_index}
use Rattle.route_walks.specs.declared.graph.ArcRec.{ArcRec}
use Rattle.near_labels.specs.UpDown.{HasUpDown}
use Rattle.hierarchy.proofs.Arcs.{rows-all}
use Rattle.hierarchy.proofs.bridges.are_kept.Goals as goal

pub returns-clause-kept : goal.returns-clause-kept
returns-clause-kept c =
    let parts = c.args.parts.now in
    let place = slice_index parts.places.items in
    λ _.
    rows-all
    (λ (arc : ArcRec). HasUpDown parts.up.arcs parts.down.arcs (place arc.tail) (place arc.head) arc.weight) c.args.csr.now
    c.loop-u.u c.n-u-end.ensures.in_rows (omega (arith, c.n-u-end.ensures.vertices, c.loop-u-test.false))
    c.loop-u.invariant.kept
