-- Each turn sets one weight more.
use Rattle.std.proofs.Common.{◌<◌, length, get_or, arith}
use Rattle.std.proofs.lemmas.List.{get_or_default}
use Rattle.std.proofs.lemmas.List.Edits.{map_over_more}
use Rattle.csr_graph.specs.Layout.{unit_target}
use Rattle.csr_graph.proofs.Facts.{no_target}
use Rattle.csr_graph.proofs.target.set_unit_weights.Goals as goal

pub loop-target-preserved : goal.loop-target-preserved
loop-target-preserved c =
    let ys = c.loop-target.targets in
    let i = c.loop-target.target-index in
    let lt : i < length c.args.targets.now = omega arith in
    map_over_more unit_target c.args.targets.now ys i (get_or ys i no_target) lt c.loop-target.invariant
    (get_or_default ys i no_target (get_or ys i no_target) (omega arith))
