use Rattle.std.proofs.Common.{◌<◌, arith}
use Rattle.std.specs.Prelude.{All}
use Rattle.csr_graph.specs.Graph.{targets_of}
use Rattle.csr_graph.specs.declared.target.Target.{Target}
use Rattle.csr_graph.proofs.Facts.{row_heads}
use Rattle.hierarchy.specs.Checked.{DoesRise}
use Rattle.hierarchy.proofs.Arcs.{rows-all, rows-more}
use Rattle.hierarchy.proofs.rising.are_rising.Goals as goal

pub loop-u-preserved : goal.loop-u-preserved
loop-u-preserved c =
    let graph = c.args.rows.now in
    let u = c.loop-u.u in
    let rises : All (λ (target : Target). u < target.head) (targets_of graph.arcs u) =
    rw c.row.ensures.targets at (c.is_row_rising.ensures c.if-not-is_row_rising.false) in
    rows-more (DoesRise graph.n) graph.arcs u c.loop-u.invariant
    (λ k d lt. (rises k d lt, row_heads graph c.row.ensures.in_rows u k d lt))

pub returns : goal.returns
returns c =
    λ _.
    rows-all (DoesRise c.args.rows.now.n) c.args.rows.now c.loop-u.u c.n-u-end.ensures.in_rows
    (omega (arith, c.n-u-end.ensures.vertices, c.loop-u-test.false)) c.loop-u.invariant
