use Rattle.std.proofs.Common.{ap, ◌∙◌, sym, arith}
use Rattle.obim_bags.specs.declared.bag_rule.Tally.{Tally}
use Rattle.obim_bags.proofs.BagRule.{adds_worker}
use Rattle.obim_bags.proofs.passes.add_workers.Goals as goal

pub another-requires-clause-rule : goal.another-requires-clause-rule
another-requires-clause-rule c =
    let share = ap (λ (t : Tally). t.share) c.loop.invariant.shares in
    let workers = ap (λ (t : Tally). t.workers) c.loop.invariant.shares in
    adds_worker _ _ (share ∙ sym workers) (omega (arith, share))
