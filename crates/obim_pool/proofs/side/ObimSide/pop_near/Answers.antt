use Rattle.std.proofs.Common.{◌∙◌, ◌<◌, List, ℕ, ap, length, refl, arith}
use Rattle.obim_pool.specs.Accounts.{Gets}
use Rattle.obim_pool.specs.Sides.{Pops, current_of}
use Rattle.obim_pool.proofs.Drawing.{at_none, takes_held}
use Rattle.obim_pool.proofs.Lifting.{changed_here, held_same}
use Rattle.obim_pool.proofs.Popping.{current_own, pops_current}
use Rattle.obim_pool.proofs.Standing.{of_sides}
use Rattle.obim_pool.proofs.side.ObimSide.pop_near.Goals as goal

pub returns-in_err-v-clause-unchanged : goal.returns-in_err-v-clause-unchanged
returns-in_err-v-clause-unchanged c =
    let side = c.self.inside in
    let own = current_own c.in_ok-at.was c.self.invariant in
    let same =
    held_same side.chunks.items c.in_ok-at.at.place _ c.take_near.new.self own c.index_mut.ensures.value
    c.in_err-v.ensures.unchanged in
    at_none _
    (ap (λ (held : List (List ℕ)). record { mirror = side.mirror; held = held; current = current_of side.current })
    same ∙ c.self.view_is)

pub returns-clause-popped : goal.returns-clause-popped
returns-clause-popped c =
    let side = c.self.inside in
    let own = current_own c.in_ok-at.was c.self.invariant in
    let within : c.in_ok-at.at.place < length side.mirror.accesses = omega (arith, own, c.self.invariant.own) in
    of_sides (Pops c.in_ok-v.v) _ _ c.self.view_is refl refl
    (pops_current side.current c.in_ok-at.was c.self.invariant.current_is
    (changed_here (Gets c.in_ok-v.v) _ side.chunks.items own c.index_mut.ensures.value
    (takes_held c.in_ok-at.at.place side.mirror _ c.take_near.new.self c.in_ok-v.v within c.in_ok-v.ensures.taken)))
