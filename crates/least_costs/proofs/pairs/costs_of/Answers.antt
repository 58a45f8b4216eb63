use Rattle.std.proofs.Common.{arith}
use Rattle.least_costs.specs.declared.start.Start.TheVariants.{At}
use Rattle.least_costs.specs.Costs.{AreCostsTo}
use Rattle.least_costs.specs.Pairs.{AreGrownCostsTo, pair_at}
use Rattle.least_costs.proofs.Reaching.{costs-of-pairs, grown-costs-of-pairs}
use Rattle.least_costs.proofs.pairs.costs_of.Goals as goal

pub returns : goal.returns
returns g c =
    let asked = c.args.asked.now in
    let first = c.args.first in
    let run = c.run_end-end.ensures in
    let targets = c.in_ok-targets.targets.items in
    let aims = c.in_ok-targets.ensures in
    let costs = c.in_ok-costs.costs.items in
    let to : AreCostsTo asked.network.now (At (pair_at asked.order.now first).0) targets costs =
    rw c.deref-2.ensures.value at c.in_ok-costs.ensures in
    let more : AreGrownCostsTo asked.grown (At (pair_at asked.order.now first).0) targets c.in_ok-after.after.items =
    rw c.deref-3.ensures.value at c.in_ok-after.ensures in
    record {
      some = omega (arith, run.some, aims.count, to.count);
      within = omega (arith, aims.count, to.count, run.within);
      costs = costs-of-pairs asked asked.network.now first c.run_end-end.result targets costs c.requires.asked run aims to;
      after =
          grown-costs-of-pairs asked.grown asked first c.run_end-end.result targets costs c.in_ok-after.after.items
          c.requires.asked run aims to.count more;
    }
