use Rattle.std.proofs.Common.{◌∙◌, ℕ, List, [], ◌∷◌, ◌++◌, ap, arith, drop, rules, slice_index, subst, sym, take}
use Rattle.std.proofs.lemmas.List.{drop-drop, take_all, take_more}
use Rattle.least_costs.specs.Network.{NetworkSeen}
use Rattle.least_costs.specs.Taken.{AreFor}
use Rattle.cost_examples.specs.Spares.{AreNearest}
use Rattle.least_costs.proofs.Facts.{for-length}
use Rattle.cost_examples.proofs.spare.nearest_two.Goals as goal

pub loop-depot-init : goal.loop-depot-init
loop-depot-init g c =
    record { net = search rules; left = search rules; found = c.in_ok-found.ensures c.args.network.now }

pub with_costs-requires-clause-found : goal.with_costs-requires-clause-found
with_costs-requires-clause-found g c =
    rw c.deref.ensures.value
    (for-length (λ v choice. AreNearest c.args.network.now v (take c.loop-depot.depot-index c.args.depots.now) choice)
    c.args.customers.now c.loop-depot.found.items c.loop-depot.invariant.found)

pub loop-depot-preserved : goal.loop-depot-preserved
loop-depot-preserved g c =
    let depots = c.args.depots.now in
    let customers = c.args.customers.now in
    let k = c.loop-depot.depot-index in
    let i = c.loop-depot.invariant in
    let depot = slice_index depots k in
    let from = rw c.in_ok-costs-in-Some.was at c.in-Some.ensures.costs in
    let same = from.net_is ∙ i.net in
    let before =
    subst
    (λ (net : NetworkSeen). AreFor (λ v choice. AreNearest net v (take k depots) choice) customers c.loop-depot.found.items)
    (sym same) i.found in
    record {
      net = c.next.ensures.net ∙ i.net;
      left =
          c.in-Some.ensures.left ∙ ap (λ (xs : List ℕ). drop 1 xs) i.left ∙ drop-drop 1 k depots
          ∙ ap (λ (n : ℕ). drop n depots) (omega arith);
      found =
          rw (take_more depots k 0 c.loop-depot-test.true)
          (subst
          (λ (net : NetworkSeen).
          AreFor (λ v choice. AreNearest net v (take k depots ++ depot ∷ []) choice) customers c.in_ok-found-in-Some.found.items)
          same (c.in_ok-found-in-Some.ensures (take k depots) (rw c.deref.ensures.value before)));
    }

pub returns : goal.returns
returns g c =
    subst (λ (xs : List ℕ). AreFor (λ v choice. AreNearest c.args.network.now v xs choice) c.args.customers.now c.loop-depot.found.items)
    (take_all c.loop-depot.depot-index c.args.depots.now (omega (arith, c.loop-depot-test.false)))
    c.loop-depot.invariant.found
