use Rattle.std.proofs.Common.{◌≡◌, ◌<◌, arith, slice_index}
use Rattle.std.proofs.lemmas.List.{get_or_read}
use Rattle.route_walks.specs.declared.graph.TheConstants.{INF}
use Rattle.route_walks.specs.Label.{IsLeast}
use Rattle.least_costs.specs.Network.{seeds_at}
use Rattle.least_costs.proofs.Unreached.{unreached-at}
use Rattle.least_costs.proofs.costs.Costs.to.Goals as goal

pub returns-then-label-clause-none : goal.returns-then-label-clause-none
returns-then-label-clause-none c =
    let net = c.self.inside.of.value in
    let labels = c.self.inside.labels.items in
    let v = c.args.v in
    let are = c.self.invariant in
    let within : v < net.n = rw (← c.self.view_is) at c.requires in
    let read = get_or_read labels v c.index-label.result.now (omega (arith, are.least.count, within)) c.index-label.ensures 0 in
    let inf : slice_index labels v ≡ INF = omega (arith, read, c.if-label.true) in
    rw (← c.self.view_is)
    (unreached-at c.inf_means_no_walk.ensures net c.self.inside.start labels are.network are.within are.least v within inf)

pub returns-else-label-clause-some : goal.returns-else-label-clause-some
returns-else-label-clause-some c =
    let net = c.self.inside.of.value in
    let labels = c.self.inside.labels.items in
    let v = c.args.v in
    let are = c.self.invariant in
    let within : v < net.n = rw (← c.self.view_is) at c.requires in
    let read = get_or_read labels v c.index-label.result.now (omega (arith, are.least.count, within)) c.index-label.ensures 0 in
    let is : IsLeast net.arcs (seeds_at net.n c.self.inside.start) v c.index-label.result.now =
    rw read (are.least.least v within) in
    rw (← c.self.view_is)
    (record {
      attained = is.attained (omega (arith, is.capped, c.if-label.false));
      least = is.least;
    })
