use Rattle.std.proofs.Common.{List, Some, refl, subst}
use Rattle.obim_pool.specs.declared.order.OwnBag.{OwnBag}
use Rattle.obim_pool.specs.Sides.{IsSide}
use Rattle.obim_pool.specs.Steps.{FindsAllEmpty, PopsLowest}
use Rattle.obim_pool.proofs.Popping.{draws_lowest, finds_all, is_side_still, searched_in}
use Rattle.obim_pool.proofs.Standing.{of_sides}
use Rattle.obim_pool.proofs.side.ObimSide.pop_lowest.Goals as goal

pub invariant_of-self : goal.invariant_of-self
invariant_of-self g c =
    let scan = c.in-Some.ensures in
    let grown = c.catch_up.ensures in
    subst (λ (order : List OwnBag). IsSide c.scan-drawn.new.mirror c.scan-drawn.new.chunks.items order
    (Some c.in-Some.at)) c.deref.ensures.value
    (is_side_still scan.popped.rank scan.popped.there
    (searched_in c.deref.ensures.value grown.grows grown.order scan.bags scan.own))

pub returns-in-Some-clause-popped : goal.returns-in-Some-clause-popped
returns-in-Some-clause-popped g c =
    let scan = c.in-Some.ensures in
    let grown = c.catch_up.ensures in
    of_sides (PopsLowest c.in-Some.v) _ _ c.self.view_is refl refl
    (draws_lowest _ (searched_in c.deref.ensures.value grown.grows grown.order scan.bags scan.own) scan.popped)

pub returns-in-None-clause-none : goal.returns-in-None-clause-none
returns-in-None-clause-none g c =
    let scan = c.in-None.ensures in
    let grown = c.catch_up.ensures in
    of_sides FindsAllEmpty _ _ c.self.view_is refl refl
    (finds_all _ (searched_in c.deref.ensures.value grown.grows grown.order scan.bags scan.own) scan.none)
