use Rattle.std.proofs.Common.{◌≡◌, ◌∙◌, ◌+◌, ◌<◌, None, arith, length, set, slice_index_or, subst}
use Rattle.std.proofs.lemmas.List.{length-set}
use Rattle.least_costs.specs.Pairs.{AreFilled, pair_at}
use Rattle.least_costs.proofs.Filling.{filled_more}
use Rattle.least_costs.proofs.pairs.order.fill.Goals as goal

pub loop-at-preserved : goal.loop-at-preserved
loop-at-preserved c =
    let order = c.args.order.now in
    let i = c.args.first + c.loop-at.at in
    let here : i < length order = omega (arith, c.loop-at-test.true, c.requires.within) in
    let cost = slice_index_or c.args.costs.now c.loop-at.at None in
    let new = set c.loop-at.filled (pair_at order i).1 cost in
    let place : (pair_at order i).1 < length c.loop-at.filled =
    omega (arith, c.requires.places i (0, 0) here, c.loop-at.invariant.places) in
    let next : i + 1 ≡ c.args.first + (c.loop-at.at + 1) = omega arith in
    record {
      places = length-set c.loop-at.filled (pair_at order i).1 cost ∙ c.loop-at.invariant.places;
      filled = λ net pairs are before.
          subst (λ k. AreFilled net pairs order k new) next
          (filled_more net pairs order i c.loop-at.filled cost here place (are c.loop-at.at c.loop-at-test.true)
          (c.loop-at.invariant.filled net pairs are before));
    }

pub returns-clause-filled : goal.returns-clause-filled
returns-clause-filled c net pairs are before =
    let ended : c.args.first + c.loop-at.at ≡ c.args.first + length c.args.costs.now =
    omega (arith, c.loop-at-test.false, c.loop-at.auto.at-end) in
    subst (λ k. AreFilled net pairs c.args.order.now k c.loop-at.filled) ended
    (c.loop-at.invariant.filled net pairs are before)
