use Rattle.std.proofs.Common.{arith}
use Rattle.obim_bags.proofs.BagRule.{gets, looks, settles}
use Rattle.obim_bags.proofs.Listed.{none_gives}
use Rattle.obim_bags.proofs.bag.Bag.take_front.Goals as goal

pub pop_as-got-requires-clause-rule : goal.pop_as-got-requires-clause-rule
pop_as-got-requires-clause-rule g c = (gets _ _ (omega (arith, c.pass.invariant.2)), looks _ _)

-- what is learnt of an empty queue
pub returns-then-is_none-clause-alone : goal.returns-then-is_none-clause-alone
returns-then-is_none-clause-alone g c =
    rw (← c.pass.view_is)
    (none_gives _ _ _ c.pop_as-got.result
    (λ found all weight. settles c.pass.inside.pass.me.view.client all
    (omega (arith, c.pass.invariant.2)) found.1 weight)
    c.pop_as-got.ensures.rule)
