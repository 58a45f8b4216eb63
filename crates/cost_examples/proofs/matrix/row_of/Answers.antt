use Rattle.std.proofs.Common.{slice_index, take}
use Rattle.std.proofs.lemmas.List.{take_more}
use Rattle.least_costs.specs.Costs.{IsCostTo}
use Rattle.least_costs.proofs.Facts.{cost-told, for-more}
use Rattle.cost_examples.proofs.matrix.row_of.Goals as goal

pub loop-target-preserved : goal.loop-target-preserved
loop-target-preserved c =
    let net = c.args.costs.now.net in
    let start = c.args.costs.now.start in
    let targets = c.args.targets.now in
    let i = c.loop-target.target-index in
    let target = slice_index targets i in
    rw (take_more targets i 0 c.loop-target-test.true, c.in_ok-push.ensures.items)
    (for-more (IsCostTo net start) (take i targets) c.loop-target.row.items target c.to.result c.loop-target.invariant
    (cost-told net start target c.to.result c.to.ensures.some c.to.ensures.none))
