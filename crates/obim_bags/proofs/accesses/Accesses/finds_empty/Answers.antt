-- The place that was called is changed, and its bag isn't.
use Rattle.obim_bags.specs.Logs.{access_after_empty_find}
use Rattle.obim_bags.proofs.Listed.{true_then}
use Rattle.obim_bags.proofs.AccessSteps.{called_at, bags_stay, changed}
use Rattle.obim_bags.proofs.accesses.Accesses.finds_empty.Goals as goal

pub invariant_of-self : goal.invariant_of-self
invariant_of-self c =
    let at = called_at {now = c.finds_empty.new.self} c.self.inside.list.items
    (rw (← c.self.view_is) at c.requires) c.index_mut.ensures.value c.finds_empty.ensures.bag in
    rw (bags_stay at) c.self.invariant

pub returns-clause-bags : goal.returns-clause-bags
returns-clause-bags c =
    let at = called_at {now = c.finds_empty.new.self} c.self.inside.list.items
    (rw (← c.self.view_is) at c.requires) c.index_mut.ensures.value c.finds_empty.ensures.bag in
    rw (← c.self.view_is) (bags_stay at)

pub returns-clause-found_empty : goal.returns-clause-found_empty
returns-clause-found_empty c =
    let at = called_at {now = c.finds_empty.new.self} c.self.inside.list.items
    (rw (← c.self.view_is) at c.requires) c.index_mut.ensures.value c.finds_empty.ensures.bag in
    rw (← c.self.view_is)
    (true_then _ _ c.finds_empty.result (changed access_after_empty_find at) c.finds_empty.ensures.found_empty)

pub returns-clause-alone : goal.returns-clause-alone
returns-clause-alone c =
    let at = called_at {now = c.finds_empty.new.self} c.self.inside.list.items
    (rw (← c.self.view_is) at c.requires) c.index_mut.ensures.value c.finds_empty.ensures.bag in
    rw (← c.self.view_is)
    (true_then _ _ c.finds_empty.result
    (λ empty. (c.index_mut.result.now, at.here, empty)) c.finds_empty.ensures.alone)
