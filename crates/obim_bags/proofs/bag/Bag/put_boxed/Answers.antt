use Rattle.std.proofs.Common.{arith}
use Rattle.obim_bags.proofs.BagRule.{puts}
use Rattle.obim_bags.proofs.bag.Bag.put_boxed.Goals as goal

pub push_as-requires-clause-rule : goal.push_as-requires-clause-rule
push_as-requires-clause-rule g c = λ n. puts n _ _ _ (omega (arith, c.pass.invariant.2)) c.requires.filled
