use Rattle.std.proofs.Common.{◌+◌, Some, length, subst}
use Rattle.least_costs.specs.Pairs.{AreCostsAtAfter, AreFilled, AreFilledAfter}
use Rattle.least_costs.proofs.pairs.fill_after.Goals as goal

pub returns-in-Some : goal.returns-in-Some
returns-in-Some c =
    let grown = c.in-Some.field-0 in
    let asked = c.args.asked.now in
    let pairs = asked.pairs.now in
    let order = asked.order.now in
    let found : AreCostsAtAfter (Some grown) pairs order c.args.first (length c.args.found.now.costs.items)
    c.args.found.now.after.items =
    rw c.in-Some.is at c.requires.found.after in
    let before : AreFilledAfter (Some grown) pairs order c.args.first c.args.filled.now =
    rw c.in-Some.is at c.requires.before in
    let filled = c.fill.ensures.filled grown.now pairs (rw c.deref.ensures.value found.1) before in
    rw c.in-Some.is
    (subst (λ count. AreFilled grown.now pairs order (c.args.first + count) c.fill.new.filled) found.0
    (rw c.deref.ensures.value at filled))
