use Rattle.std.proofs.Common.{ap, arith}
use Rattle.obim_bags.specs.declared.bag_rule.Tally.{Tally}
use Rattle.obim_bags.proofs.BagRule.{cuts_share}
use Rattle.obim_bags.proofs.passes.cut_shares.Goals as goal

pub another-pass-requires-clause-rule : goal.another-pass-requires-clause-rule
another-pass-requires-clause-rule c =
    let share = ap (λ (t : Tally). t.share) c.loop.invariant.shares in cuts_share _ _ (omega (arith, share))
