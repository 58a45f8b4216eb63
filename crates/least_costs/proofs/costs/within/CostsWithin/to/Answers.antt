-- What a label above the bound, one of INF, and one within the bound say.
use Rattle.std.proofs.Common.{◌<◌, arith, sym}
use Rattle.std.proofs.lemmas.List.{get_or_read}
use Rattle.least_costs.specs.Within.{WithinSeen}
use Rattle.least_costs.proofs.Bounds.{beyond, beyond-inf, cost-within}
use Rattle.least_costs.proofs.costs.within.CostsWithin.to.Goals as goal

pub returns-then-label-self-clause-none : goal.returns-then-label-self-clause-none
returns-then-label-self-clause-none c =
    let inside = c.self.inside in
    let seen : WithinSeen = record { net = inside.of.value; source = inside.source; bound = inside.bound } in
    let labels = inside.labels.items in
    let v = c.args.v in
    let are = c.self.invariant in
    let within : v < seen.net.n = rw (← c.self.view_is) at c.requires in
    let read = get_or_read labels v c.index-label.result.now (omega (arith, are.up.count, within)) c.index-label.ensures 0 in
    rw (← c.self.view_is) (beyond seen labels v are within (omega (arith, read, c.if-label-self.true)))

pub returns-then-label-clause-none : goal.returns-then-label-clause-none
returns-then-label-clause-none c =
    let inside = c.self.inside in
    let seen : WithinSeen = record { net = inside.of.value; source = inside.source; bound = inside.bound } in
    let labels = inside.labels.items in
    let v = c.args.v in
    let are = c.self.invariant in
    let within : v < seen.net.n = rw (← c.self.view_is) at c.requires in
    let read = get_or_read labels v c.index-label.result.now (omega (arith, are.up.count, within)) c.index-label.ensures 0 in
    rw (← c.self.view_is) (beyond-inf seen labels v are within (omega (arith, read, c.if-label.true)))

pub returns-clause-some : goal.returns-clause-some
returns-clause-some c =
    let inside = c.self.inside in
    let seen : WithinSeen = record { net = inside.of.value; source = inside.source; bound = inside.bound } in
    let labels = inside.labels.items in
    let v = c.args.v in
    let are = c.self.invariant in
    let within : v < seen.net.n = rw (← c.self.view_is) at c.requires in
    let read = get_or_read labels v c.index-label.result.now (omega (arith, are.up.count, within)) c.index-label.ensures 0 in
    rw (← c.self.view_is)
    (cost-within seen labels v c.index-label.result.now are within (sym read) (omega (arith, c.if-label-self.false))
    (omega (arith, read, (are.up.least v within).capped, c.if-label.false)))
