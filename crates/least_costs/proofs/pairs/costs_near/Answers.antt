use Rattle.std.proofs.Common.{arith}
use Rattle.least_costs.specs.declared.start.Start.TheVariants.{At}
use Rattle.least_costs.specs.Costs.{AreCostsTo}
use Rattle.least_costs.specs.Pairs.{pair_at}
use Rattle.least_costs.proofs.Reaching.{costs-of-pairs}
use Rattle.least_costs.proofs.pairs.costs_near.Goals as goal

pub returns : goal.returns
returns c =
    let asked = c.args.asked.now in
    let first = c.args.first in
    let run = c.run_end-end.ensures in
    let targets = c.in-Ok.targets.items in
    let aims = c.in-Ok.ensures in
    let costs = c.in-Some.costs.items in
    let to : AreCostsTo asked.network.now (At (pair_at asked.order.now first).0) targets costs =
    rw c.deref.ensures.value at c.in-Some.ensures in
    record {
      some = omega (arith, run.some, aims.count, to.count);
      within = omega (arith, aims.count, to.count, run.within);
      costs = costs-of-pairs asked asked.network.now first c.run_end-end.result targets costs c.requires.asked run aims to;
      after = rw c.in-None.is tt;
    }
