use Rattle.std.proofs.Common.{◌≡◌, ◌∙◌, ℕ, List, ap, arith, drop, slice_index, subst, take}
use Rattle.std.proofs.lemmas.List.{drop-drop, get_or-drop, take_all, take_more}
use Rattle.least_costs.specs.declared.start.Start.TheVariants.{At}
use Rattle.least_costs.proofs.Facts.{cost-told}
use Rattle.cost_examples.specs.Callers.{IsNearest}
use Rattle.cost_examples.proofs.nearest.nearest_depot.Goals as goal

pub loop-depot-preserved : goal.loop-depot-preserved
loop-depot-preserved g c =
    let depots = c.args.depots.now in
    let k = c.loop-depot.depot-index in
    let i = c.loop-depot.invariant in
    let costs = c.in_ok-found-in-Some.field-0 in
    let cost = c.to-in-Some in
    let from = rw c.in_ok-found-in-Some.was at c.in-Some.ensures.costs in
    let source : slice_index c.loop-depot.each.left 0 ≡ slice_index depots k =
    ap (λ (xs : List ℕ). slice_index xs 0) i.left ∙ get_or-drop k depots 0 0 ∙ ap (slice_index depots) (omega arith) in
    let told = cost-told costs.net costs.start c.args.v cost.result cost.ensures.some cost.ensures.none in
    let here = rw (from.net_is ∙ i.net, from.start_is ∙ ap At source) at told in
    record {
      net = c.next.ensures.net ∙ i.net;
      left =
          c.in-Some.ensures.left ∙ ap (λ (xs : List ℕ). drop 1 xs) i.left ∙ drop-drop 1 k depots
          ∙ ap (λ (n : ℕ). drop n depots) (omega arith);
      best =
          rw (take_more depots k 0 c.loop-depot-test.true)
          (c.nearer-best.ensures c.args.network.now c.args.v (take k depots) i.best here);
    }

pub returns : goal.returns
returns g c =
    let depots = c.args.depots.now in
    subst (λ (xs : List ℕ). IsNearest c.args.network.now c.args.v xs c.loop-depot.best)
    (take_all c.loop-depot.depot-index depots (omega (arith, c.loop-depot-test.false)))
    c.loop-depot.invariant.best
