use Rattle.std.proofs.Common.{arith}
use Rattle.obim_bags.proofs.BagRule.{settles}
use Rattle.obim_bags.proofs.Listed.{true_gives}
use Rattle.obim_bags.proofs.bag.Bag.finds_empty.Goals as goal

-- what is learnt of an empty queue
pub returns-then-empty-clause-alone : goal.returns-then-empty-clause-alone
returns-then-empty-clause-alone c =
    rw (← c.pass.view_is)
    (true_gives _ _ c.is_empty_as-empty.result
    (λ found all weight. settles c.pass.inside.pass.me.view.client all (omega (arith, c.pass.invariant.2)) found weight)
    c.is_empty_as-empty.ensures.rule)
