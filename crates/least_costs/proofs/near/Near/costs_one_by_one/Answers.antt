-- One target more.
use Rattle.std.proofs.Common.{◌∷◌, ◌++◌, [], List, ℕ, arith, subst, sym, take}
use Rattle.std.specs.Prelude.{None, slice_index}
use Rattle.std.proofs.lemmas.List.{get_or_read, take_all, take_more}
use Rattle.least_costs.specs.Costs.{AreCostsTo, IsCostTo}
use Rattle.least_costs.specs.declared.start.Start.TheVariants.{At}
use Rattle.least_costs.proofs.Reaching.{costs-more}
use Rattle.least_costs.proofs.near.Near.costs_one_by_one.Goals as goal

pub loop-target-preserved : goal.loop-target-preserved
loop-target-preserved c =
    let net = c.args.network.now in
    let from = At c.args.source in
    let targets = c.args.targets.now in
    let i = c.loop-target.target-index in
    let v = slice_index targets i in
    let cost = c.index.result.now in
    let found = c.in-Some.found.items in
    let to = c.in-Some.ensures in
    let read = get_or_read found 0 cost (omega (arith, to.count)) c.index.ensures None in
    let is : IsCostTo net from v cost = subst (IsCostTo net from v) (sym read) (to.each 0 (omega arith)) in
    rw c.in-Ok.ensures.items
    (subst (λ (xs : List ℕ). AreCostsTo net from xs (c.loop-target.costs.items ++ cost ∷ []))
    (sym (take_more targets i 0 c.loop-target-test.true))
    (costs-more net from (take i targets) c.loop-target.costs.items v cost c.loop-target.invariant is))

pub returns : goal.returns
returns c =
    let targets = c.args.targets.now in
    subst (λ (xs : List ℕ). AreCostsTo c.args.network.now (At c.args.source) xs c.loop-target.costs.items)
    (take_all c.loop-target.target-index targets c.loop-target-test.false) c.loop-target.invariant
