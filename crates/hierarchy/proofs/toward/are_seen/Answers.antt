use Rattle.std.proofs.Common.{subst}
use Rattle.std.specs.Prelude.{All, Contains, slice_index}
use Rattle.std.proofs.lemmas.List.{take_all}
use Rattle.std.proofs.lemmas.List.Elements.{All-more, Contains-get_or}
use Rattle.hierarchy.proofs.toward.are_seen.Goals as goal

pub loop-v-preserved : goal.loop-v-preserved
loop-v-preserved c =
    let order = c.args.order.now in
    let v = slice_index c.args.places.now c.loop-v.v-index in
    let at = c.requires v c.if-not-seen-end.false in
    All-more (Contains order) c.args.places.now c.loop-v.v-index 0 c.loop-v-test.true c.loop-v.invariant
    (subst (Contains order) at.2 (Contains-get_or order at.0 0 at.1))

pub returns : goal.returns
returns c =
    λ _.
    subst (All (Contains c.args.order.now)) (take_all c.loop-v.v-index c.args.places.now c.loop-v-test.false)
    c.loop-v.invariant
