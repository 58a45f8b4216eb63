use Rattle.std.proofs.Common.{arith}
use Rattle.least_costs.specs.Pairs.{AreCostsFrom}
use Rattle.least_costs.proofs.Filling.{all_filled, all_filled_after}
use Rattle.least_costs.proofs.pairs.fill_all.Goals as goal

pub loop-first-preserved : goal.loop-first-preserved
loop-first-preserved g c =
    let asked = c.args.asked.now in
    let found : AreCostsFrom asked c.loop-first.first c.in_ok-found.found = c.in_ok-found.ensures.costs in
    record {
      before =
          c.fill.ensures.filled asked.network.now asked.pairs.now (rw c.deref-own.ensures.value found.costs)
          c.loop-first.invariant.before;
      after = rw c.deref-own.ensures.value c.fill_after.ensures;
      made = c.in_ok-found.ensures.left;
    }

pub returns-clause-costs : goal.returns-clause-costs
returns-clause-costs g c =
    let asked = c.args.asked.now in
    all_filled asked.network.now asked.pairs.now asked.order.now c.loop-first.first c.loop-first.costs
    (omega (arith, c.loop-first-test.false)) c.requires.asked.order c.loop-first.invariant.before

pub returns-clause-after : goal.returns-clause-after
returns-clause-after g c =
    let asked = c.args.asked.now in
    all_filled_after asked.grown asked.pairs.now asked.order.now c.loop-first.first c.loop-first.after
    (omega (arith, c.loop-first-test.false)) c.requires.asked.order c.loop-first.invariant.after
