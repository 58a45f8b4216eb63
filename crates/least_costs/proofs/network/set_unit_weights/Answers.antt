-- Each turn sets one weight more.
use Rattle.std.proofs.Common.{◌<◌, length, get_or, arith}
use Rattle.std.proofs.lemmas.List.{get_or_default}
use Rattle.std.proofs.lemmas.List.Edits.{map_over_more}
use Rattle.csr_graph.proofs.Facts.{no_arc}
use Rattle.route_walks.specs.Operators.{unit_weight}
use Rattle.least_costs.proofs.network.set_unit_weights.Goals as goal

pub loop-arc-preserved : goal.loop-arc-preserved
loop-arc-preserved c =
    let ys = c.loop-arc.arcs in
    let i = c.loop-arc.arc-index in
    let lt : i < length c.args.arcs.now = omega arith in
    map_over_more unit_weight c.args.arcs.now ys i (get_or ys i no_arc) lt c.loop-arc.invariant
    (get_or_default ys i no_arc (get_or ys i no_arc) (omega arith))
