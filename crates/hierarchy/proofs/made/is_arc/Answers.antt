use Rattle.std.proofs.Common.{get_or}
use Rattle.hierarchy.proofs.Arcs.{arc-of_target}
use Rattle.hierarchy.proofs.made.is_arc.Goals as goal

pub returns : goal.returns
returns c =
    λ is.
    arc-of_target c.args.csr.now c.row.ensures.in_rows (get_or c.args.vertices.now c.args.u 0) c.row.result.now
    c.row.ensures.targets (get_or c.args.vertices.now c.args.v 0) c.args.most (c.is_target.ensures is)
