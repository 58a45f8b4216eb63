use Rattle.std.proofs.Common.{◌<◌}
use Rattle.least_costs.proofs.LeastWalks.{least-walk, none-told, some-told, unreached-without_hop}
use Rattle.least_costs.proofs.costs.walks.Walks.to.Goals as goal

pub returns-clause-some : goal.returns-clause-some
returns-clause-some c =
    let net = c.self.inside.of.value in
    let hops = c.self.inside.hops.items in
    let parents = c.self.inside.parents.items in
    let v = c.args.v in
    let below : v < net.n = rw (← c.self.view_is) at c.requires in
    rw (← c.self.view_is)
    (some-told _ _ c.walk_to.result (rw c.deref.ensures.value at c.walk_to.ensures.none)
    (rw (c.deref.ensures.value, c.deref-2.ensures.value) at c.walk_to.ensures.walk)
    (λ walk some is.
    rw is (least-walk c.printed_walks_are_walks.ensures net c.self.inside.source hops parents c.self.invariant v below some)))

pub returns-clause-none : goal.returns-clause-none
returns-clause-none c =
    let net = c.self.inside.of.value in
    let hops = c.self.inside.hops.items in
    let parents = c.self.inside.parents.items in
    let v = c.args.v in
    let below : v < net.n = rw (← c.self.view_is) at c.requires in
    rw (← c.self.view_is)
    (none-told c.walk_to.result (rw c.deref.ensures.value at c.walk_to.ensures.none)
    (unreached-without_hop c.inf_means_no_walk.ensures net c.self.inside.source hops parents c.self.invariant v below))
