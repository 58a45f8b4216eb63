-- The metric of the entry at the place.
use Rattle.obim_bags.specs.Entries.{EntrySeen}
use Rattle.obim_bags.specs.Bags.{BagSeen}
use Rattle.obim_bags.proofs.Listed.{found_at, at_map}
use Rattle.obim_bags.proofs.entries.Entries.metric_at.Goals as goal

pub returns-clause-metric : goal.returns-clause-metric
returns-clause-metric c =
    let here = found_at c.self.inside.list.items c.args.place c.index.result.now
    (rw (← c.self.view_is) at c.requires) c.index.ensures in
    let bag = at_map (λ (entry : EntrySeen). entry.bag) c.self.inside.list.items c.args.place _ here in
    rw (← c.self.view_is, c.metric.ensures) (at_map (λ (bag : BagSeen). bag.metric) _ c.args.place _ bag)
