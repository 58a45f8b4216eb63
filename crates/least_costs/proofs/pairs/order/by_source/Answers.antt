use Rattle.std.proofs.Common.{◌≡◌, ◌+◌, false, refl, arith}
use Rattle.std.specs.Ordering.{is_lt, ordering_then}
use Rattle.std.specs.declared.cmp.Ordering.{Ordering}
use Rattle.std.specs.declared.cmp.Ordering.TheVariants.{Less, Equal, Greater}
use Rattle.std.proofs.lemmas.Map.Keys.{ge_from_not_lt}
use Rattle.least_costs.specs.Pairs.{pair_at}
use Rattle.least_costs.proofs.Filling.{placed_more, all_placed}
use Rattle.least_costs.proofs.pairs.order.by_source.Goals as goal

pub loop-place-preserved : goal.loop-place-preserved
loop-place-preserved c =
    rw c.in_ok-push.ensures.items
    (placed_more c.args.pairs.now c.loop-place.place c.loop-place.order.items c.loop-place.invariant)

-- what doesn't come before by two keys doesn't come before by the first
not_less : (first second : Ordering) → is_lt (ordering_then first second) ≡ false → is_lt first ≡ false
not_less Less second is = is
not_less Equal second is = refl
not_less Greater second is = refl

pub returns : goal.returns
returns c =
    let sorted = c.sort.new.self.items in
    all_placed c.args.pairs.now c.loop-place.place c.loop-place.order.items sorted
    (omega (arith, c.loop-place-test.false, c.loop-place.auto.place-end)) c.loop-place.invariant
    c.sort.ensures.permutation
    (λ k below. ge_from_not_lt (pair_at sorted (k + 1)).0 (pair_at sorted k).0
    (not_less _ _ (c.in_ok-sort.ensures.sorted k (0, 0) (omega arith) below)))
