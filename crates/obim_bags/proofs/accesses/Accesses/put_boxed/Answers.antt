-- The place that was called is changed, and its bag isn't.
use Rattle.std.proofs.lemmas.Result.{on_ok_weaker}
use Rattle.obim_bags.specs.Logs.{access_after_put}
use Rattle.obim_bags.proofs.AccessSteps.{called_at, bags_stay, changed}
use Rattle.obim_bags.proofs.accesses.Accesses.put_boxed.Goals as goal

pub invariant_of-self : goal.invariant_of-self
invariant_of-self g c =
    let at = called_at {now = c.put_boxed.new.self} c.self.inside.list.items
    (rw (← c.self.view_is) at c.requires.place) c.index_mut.ensures.value c.put_boxed.ensures.bag in
    rw (bags_stay at) c.self.invariant

pub returns-clause-bags : goal.returns-clause-bags
returns-clause-bags g c =
    let at = called_at {now = c.put_boxed.new.self} c.self.inside.list.items
    (rw (← c.self.view_is) at c.requires.place) c.index_mut.ensures.value c.put_boxed.ensures.bag in
    rw (← c.self.view_is) (bags_stay at)

pub returns-clause-put : goal.returns-clause-put
returns-clause-put g c =
    let at = called_at {now = c.put_boxed.new.self} c.self.inside.list.items
    (rw (← c.self.view_is) at c.requires.place) c.index_mut.ensures.value c.put_boxed.ensures.bag in
    rw (← c.self.view_is)
    (on_ok_weaker c.put_boxed.result (changed (access_after_put c.args.chunk.value) at) c.put_boxed.ensures.put)
