use Rattle.std.proofs.Common.{◌∙◌, arith}
use Rattle.std.proofs.lemmas.Option.{slice_get-get_or}
use Rattle.obim_pool.specs.Accounts.{Gets}
use Rattle.obim_pool.proofs.Lifting.{changed_here}
use Rattle.obim_pool.proofs.Looking.{tried_all, tried_bare, tried_draws, tried_next, tried_own, tried_still}
use Rattle.obim_pool.proofs.pop.scan.Goals as goal

pub index-requires : goal.index-requires
index-requires g c =
    let there = slice_get-get_or c.args.order.now c.loop-at.at-index
    (record { metric = 0; place = 0 }) c.loop-at-test.true in
    omega (arith, tried_own c.loop-at.at-index c.requires.order c.loop-at.invariant there)

pub is_bare-requires-clause-place : goal.is_bare-requires-clause-place
is_bare-requires-clause-place g c =
    let there = slice_get-get_or c.args.order.now c.loop-at.at-index
    (record { metric = 0; place = 0 }) c.loop-at-test.true in
    omega (arith, c.loop-at.invariant.accesses, c.requires.fits, (c.requires.order.are c.loop-at.at-index _ there).0)

pub loop-at-preserved-then-is_bare : goal.loop-at-preserved-then-is_bare
loop-at-preserved-then-is_bare g c =
    let there = slice_get-get_or c.args.order.now c.loop-at.at-index
    (record { metric = 0; place = 0 }) c.loop-at-test.true in
    tried_bare _ _ _ _ _ _ _ _ _ _ c.requires.order there c.index.ensures c.loop-at.invariant c.if-is_bare.ensures.bare

pub index_mut-requires : goal.index_mut-requires
index_mut-requires g c =
    let there = slice_get-get_or c.args.order.now c.loop-at.at-index
    (record { metric = 0; place = 0 }) c.loop-at-test.true in
    omega (arith, tried_own c.loop-at.at-index c.requires.order c.loop-at.invariant there)

pub pop_at-requires-clause-place : goal.pop_at-requires-clause-place
pop_at-requires-clause-place g c =
    let there = slice_get-get_or c.args.order.now c.loop-at.at-index
    (record { metric = 0; place = 0 }) c.loop-at-test.true in
    rw c.if-is_bare.ensures.unchanged
    (omega (arith, c.loop-at.invariant.accesses, c.requires.fits, (c.requires.order.are c.loop-at.at-index _ there).0))

pub returns-in-Some-clause-bags : goal.returns-in-Some-clause-bags
returns-in-Some-clause-bags g c =
    let tried = tried_still c.if-is_bare.ensures.unchanged c.loop-at.invariant in
    let there = slice_get-get_or c.args.order.now c.loop-at.at-index
    (record { metric = 0; place = 0 }) c.loop-at-test.true in
    let own = tried_own c.loop-at.at-index c.requires.order tried there in
    (changed_here (Gets c.in-Some.v) _ c.loop-at.chunks.items own c.index_mut.ensures.value
    c.in-Some.ensures.popped).bags ∙ tried.bags

pub returns-in-Some-clause-popped : goal.returns-in-Some-clause-popped
returns-in-Some-clause-popped g c =
    let tried = tried_still c.if-is_bare.ensures.unchanged c.loop-at.invariant in
    let there = slice_get-get_or c.args.order.now c.loop-at.at-index
    (record { metric = 0; place = 0 }) c.loop-at-test.true in
    tried_draws _ _ _ _ _ _ _ _ _ _ _ _ c.requires.order there c.index_mut.ensures.value tried c.in-Some.ensures.popped

pub loop-at-preserved : goal.loop-at-preserved
loop-at-preserved g c =
    let tried = tried_still c.if-is_bare.ensures.unchanged c.loop-at.invariant in
    let there = slice_get-get_or c.args.order.now c.loop-at.at-index
    (record { metric = 0; place = 0 }) c.loop-at-test.true in
    tried_next _ _ _ _ _ _ _ _ _ _ _ c.requires.order there c.index_mut.ensures.value tried c.in-None.ensures.none

pub returns-clause-none : goal.returns-clause-none
returns-clause-none g c = tried_all _ _ _ _ _ _ c.loop-at-test.false c.loop-at.invariant
