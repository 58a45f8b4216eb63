use Rattle.std.proofs.Common.{ap, ◌∙◌, arith}
use Rattle.std.proofs.lemmas.List.Sums.{sum_by-append}
use Rattle.obim_bags.specs.declared.bag_rule.Tally.{Tally}
use Rattle.obim_bags.proofs.BagRule.{gets, looks, settles}
use Rattle.obim_bags.proofs.passes.take_all.Goals as goal

pub pop_as-requires-clause-rule : goal.pop_as-requires-clause-rule
pop_as-requires-clause-rule g c =
    let share = ap (λ (t : Tally). t.share) c.loop.invariant.tally in
    (gets _ _ (omega (arith, share, c.requires.all, c.requires.some)), looks _ _)

pub returns-in-None-pop_as : goal.returns-in-None-pop_as
returns-in-None-pop_as g c =
    let seen = rw c.loop.invariant.tally at c.in-None-pop_as.ensures.rule.1 in
    λ weight. settles _ c.requires.all (omega (arith, c.requires.all, c.requires.some)) seen weight
    ∙ sum_by-append weight c.args.pass.me.view.client.got c.loop.left.items
