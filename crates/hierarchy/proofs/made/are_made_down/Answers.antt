use Rattle.std.proofs.Common.{arith, slice_index}
use Rattle.route_walks.specs.declared.graph.ArcRec.{ArcRec}
use Rattle.hierarchy.specs.Checked.{IsMade}
use Rattle.hierarchy.proofs.Arcs.{rows-all, rows-more}
use Rattle.hierarchy.proofs.made.are_made_down.Goals as goal

pub loop-u-preserved : goal.loop-u-preserved
loop-u-preserved c =
    let parts = c.args.parts.now in
    rows-more
    (λ (arc : ArcRec). IsMade (slice_index parts.vertices.items) c.args.csr.now.arcs parts.up.arcs parts.down.arcs arc.head arc.tail
    arc.weight) parts.down.arcs c.loop-u.u c.loop-u.invariant (c.is_row_made_down.ensures c.if-not-is_row_made_down.false)

pub returns : goal.returns
returns c =
    λ _.
    let parts = c.args.parts.now in
    rows-all
    (λ (arc : ArcRec). IsMade (slice_index parts.vertices.items) c.args.csr.now.arcs parts.up.arcs parts.down.arcs arc.head arc.tail
    arc.weight) parts.down c.loop-u.u c.n-u-end.ensures.in_rows
    (omega (arith, c.n-u-end.ensures.vertices, c.loop-u-test.false)) c.loop-u.invariant
