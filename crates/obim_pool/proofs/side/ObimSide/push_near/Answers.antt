use Rattle.std.proofs.Common.{◌≡◌, ◌∙◌, ◌<◌, [], ◌∷◌, List, ℕ, Some, ap, length, refl, subst, arith}
use Rattle.std.specs.Prelude.{slice_get}
use Rattle.obim_bags.specs.Logs.{metrics_in}
use Rattle.obim_pool.specs.Accounts.{Puts}
use Rattle.obim_pool.specs.Sides.{PushesTo, current_of}
use Rattle.obim_pool.proofs.Growing.{grows_longer, longer_same}
use Rattle.obim_pool.proofs.Lifting.{changed_here, held_same}
use Rattle.obim_pool.proofs.Putting.{one_keeps}
use Rattle.obim_pool.proofs.Standing.{of_sides, pushes_to}
use Rattle.obim_pool.proofs.side.ObimSide.push_near.Goals as goal

pub returns-then-not-add_unless_last-clause-unchanged : goal.returns-then-not-add_unless_last-clause-unchanged
returns-then-not-add_unless_last-clause-unchanged c =
    let side = c.self.inside in
    let own : c.place_of-place.result < length side.chunks.items = omega (arith, c.len.ensures, c.if-place-len.false) in
    ap (λ (held : List (List ℕ)). record { mirror = side.mirror; held = held; current = current_of side.current })
    (held_same side.chunks.items c.place_of-place.result _ c.add_unless_last.new.self own c.index_mut.ensures.value
    c.if-not-add_unless_last.ensures.unchanged)
    ∙ c.self.view_is

pub returns-clause-pushed : goal.returns-clause-pushed
returns-clause-pushed c =
    let side = c.self.inside in
    let place = c.place_of-place.result in
    let own : place < length side.chunks.items = omega (arith, c.len.ensures, c.if-place-len.false) in
    let within : place < length side.mirror.accesses = omega (arith, own, c.self.invariant.own) in
    let metric = subst (λ (m : ℕ). slice_get (metrics_in side.mirror.accesses) place ≡ Some m)
    c.if-metric_at-metric.false c.metric_at.ensures in
    let one = one_keeps (c.args.v ∷ []) place side.mirror _ c.add_unless_last.new.self within
    c.if-not-add_unless_last.ensures.added in
    of_sides (PushesTo c.args.metric c.args.v) _ _ c.self.view_is c.lower.ensures.mirror c.lower.ensures.held
    (pushes_to c.args.metric c.args.v _ _
    (grows_longer side.mirror side.mirror side.chunks.items c.self.invariant.own
    (longer_same side.mirror side.mirror refl))
    (changed_here (Puts (c.args.v ∷ [])) place side.chunks.items own c.index_mut.ensures.value one) (own, metric))
