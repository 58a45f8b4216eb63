use Rattle.std.proofs.Common.{refl}
use Rattle.obim_pool.specs.Accounts.{Gets}
use Rattle.obim_pool.specs.Sides.{Keeps, Pops, current_of}
use Rattle.obim_pool.specs.Steps.{OneFind, TriesCurrent}
use Rattle.obim_bags.proofs.Facts.{none_then, some_then}
use Rattle.obim_pool.proofs.Lifting.{changed_here}
use Rattle.obim_pool.proofs.Popping.{change_keeps, current_own, one_of_both, pops_current, tries_current}
use Rattle.obim_pool.proofs.Standing.{of_sides, side_changes}
use Rattle.obim_pool.proofs.side.ObimSide.pop_current.Goals as goal

pub invariant_of-self : goal.invariant_of-self
invariant_of-self g c =
    let own = current_own c.in-Some.is c.self.invariant in
    let one = one_of_both c.pop_at.result c.pop_at.ensures.popped c.pop_at.ensures.none in
    side_changes c.self.invariant (changed_here _ _ c.self.inside.chunks.items own c.index_mut.ensures.value one)

pub returns-in-Some-clause-keeps : goal.returns-in-Some-clause-keeps
returns-in-Some-clause-keeps g c =
    let own = current_own c.in-Some.is c.self.invariant in
    let one = one_of_both c.pop_at.result c.pop_at.ensures.popped c.pop_at.ensures.none in
    let current = current_of c.self.inside.current in
    of_sides Keeps _ _ c.self.view_is refl refl
    (change_keeps current current (changed_here _ _ c.self.inside.chunks.items own c.index_mut.ensures.value one))

pub returns-in-Some-clause-popped : goal.returns-in-Some-clause-popped
returns-in-Some-clause-popped g c =
    let own = current_own c.in-Some.is c.self.invariant in
    some_then _ _ c.pop_at.result (λ v one.
    of_sides (Pops v) _ _ c.self.view_is refl refl
    (pops_current c.self.inside.current c.in-Some.is c.self.invariant.current_is
    (changed_here (Gets v) _ c.self.inside.chunks.items own c.index_mut.ensures.value one)))
    c.pop_at.ensures.popped

pub returns-in-Some-clause-none : goal.returns-in-Some-clause-none
returns-in-Some-clause-none g c =
    let own = current_own c.in-Some.is c.self.invariant in
    none_then _ _ c.pop_at.result (λ finds.
    of_sides TriesCurrent _ _ c.self.view_is refl refl
    (tries_current (current_of c.self.inside.current)
    (changed_here OneFind _ c.self.inside.chunks.items own c.index_mut.ensures.value finds.here)))
    c.pop_at.ensures.none
