use Rattle.std.proofs.Common.{List, ℕ, [], ◌∷◌, ◌++◌, arith, slice_index, subst, take}
use Rattle.std.proofs.lemmas.List.{take_all, take_more}
use Rattle.least_costs.specs.Taken.{AreFor}
use Rattle.least_costs.proofs.Facts.{cost-told, for-more}
use Rattle.cost_examples.specs.Spares.{AreNearest}
use Rattle.least_costs.proofs.Facts.{for-at}
use Rattle.cost_examples.proofs.spare.with_costs.Goals as goal

pub loop-k-preserved : goal.loop-k-preserved
loop-k-preserved c depots before =
    let net = c.args.costs.now.net in
    let customers = c.args.customers.now in
    let k = c.loop-k.k in
    let customer = slice_index customers k in
    let told = cost-told net c.args.costs.now.start customer c.to.result c.to.ensures.some c.to.ensures.none in
    rw (take_more customers k 0 c.loop-k-test.true, c.in_ok-push.ensures.items)
    (for-more (λ v choice. AreNearest net v (depots ++ c.args.depot ∷ []) choice) (take k customers) c.loop-k.next.items
    customer c.with_depot.result (c.loop-k.invariant depots before)
    (c.with_depot.ensures net customer depots
    (for-at (λ v choice. AreNearest net v depots choice) customers c.args.found.now k _ before c.loop-k-test.true)
    (rw c.requires.depot at told)))

pub returns : goal.returns
returns c depots before =
    subst
    (λ (xs : List ℕ).
    AreFor (λ v choice. AreNearest c.args.costs.now.net v (depots ++ c.args.depot ∷ []) choice) xs c.loop-k.next.items)
    (take_all c.loop-k.k c.args.customers.now (omega (arith, c.loop-k-test.false)))
    (c.loop-k.invariant depots before)
