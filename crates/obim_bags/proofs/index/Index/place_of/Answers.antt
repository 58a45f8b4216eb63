use Rattle.std.proofs.Common.{◌∙◌, sym, subst}
use Rattle.obim_bags.proofs.Indexing.{Gives, at_place, at_none}
use Rattle.obim_bags.proofs.index.Index.place_of.Goals as goal

gives : (c : goal.After-copied) → Gives c.args.self.now c.args.metric c.copied.result
gives c =
    let found = subst (Gives c.self.inside.metrics.items c.args.metric) (sym (c.copied.ensures ∙ c.get.ensures.value))
    (c.self.invariant c.args.metric) in
    subst (λ metrics. Gives metrics c.args.metric c.copied.result) c.self.view_is found

pub returns-clause-at : goal.returns-clause-at
returns-clause-at c = at_place c.args.self.now c.args.metric c.copied.result (gives c)

pub returns-clause-none : goal.returns-clause-none
returns-clause-none c = at_none c.args.self.now c.args.metric c.copied.result (gives c)
