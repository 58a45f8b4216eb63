-- The place that was called is changed, and its bag isn't.
use Rattle.std.proofs.lemmas.Option.{IfSome_then}
use Rattle.obim_bags.specs.Logs.{access_after_get, access_after_empty_find}
use Rattle.obim_bags.proofs.Listed.{none_then}
use Rattle.obim_bags.proofs.AccessSteps.{called_at, bags_stay, changed}
use Rattle.obim_bags.proofs.accesses.Accesses.get_boxed.Goals as goal

pub invariant_of-self : goal.invariant_of-self
invariant_of-self g c =
    let at = called_at {now = c.get_boxed.new.self} c.self.inside.list.items
    (rw (← c.self.view_is) at c.requires) c.index_mut.ensures.value c.get_boxed.ensures.bag in
    rw (bags_stay at) c.self.invariant

pub returns-clause-bags : goal.returns-clause-bags
returns-clause-bags g c =
    let at = called_at {now = c.get_boxed.new.self} c.self.inside.list.items
    (rw (← c.self.view_is) at c.requires) c.index_mut.ensures.value c.get_boxed.ensures.bag in
    rw (← c.self.view_is) (bags_stay at)

pub returns-clause-got : goal.returns-clause-got
returns-clause-got g c =
    let at = called_at {now = c.get_boxed.new.self} c.self.inside.list.items
    (rw (← c.self.view_is) at c.requires) c.index_mut.ensures.value c.get_boxed.ensures.bag in
    rw (← c.self.view_is)
    (IfSome_then c.get_boxed.result c.get_boxed.ensures.got (λ chunk. changed (access_after_get chunk.value) at))

pub returns-clause-found_empty : goal.returns-clause-found_empty
returns-clause-found_empty g c =
    let at = called_at {now = c.get_boxed.new.self} c.self.inside.list.items
    (rw (← c.self.view_is) at c.requires) c.index_mut.ensures.value c.get_boxed.ensures.bag in
    rw (← c.self.view_is)
    (none_then _ _ c.get_boxed.result (changed access_after_empty_find at) c.get_boxed.ensures.found_empty)

pub returns-clause-alone : goal.returns-clause-alone
returns-clause-alone g c =
    let at = called_at {now = c.get_boxed.new.self} c.self.inside.list.items
    (rw (← c.self.view_is) at c.requires) c.index_mut.ensures.value c.get_boxed.ensures.bag in
    rw (← c.self.view_is)
    (none_then _ _ c.get_boxed.result (λ empty. (c.index_mut.result.now, at.here, empty)) c.get_boxed.ensures.alone)
