use Rattle.std.proofs.Common.{◌<◌, ◌^◌, [], arith, subst, take}
use Rattle.std.proofs.lemmas.List.{take_all, take_more}
use Rattle.std.proofs.lemmas.List.Elements.{All-append, All-cons, All-nil}
use Rattle.std.specs.List.{All}
use Rattle.route_walks.specs.declared.graph.ArcRec.{ArcRec}
use Rattle.route_walks.specs.Walk.{IsArcBelow}
use Rattle.least_costs.specs.Network.{AreLight}
use Rattle.least_costs.proofs.network.first_outside.Goals as goal

pub loop-place-preserved : goal.loop-place-preserved
loop-place-preserved c =
    let none : ArcRec = record { tail = 0; head = 0; weight = 0 } in
    let arcs = c.args.arcs.now in
    let place = c.loop-place.place in
    let P = IsArcBelow c.args.n in
    let Q = λ (arc : ArcRec). arc.weight < 2 ^ 32 in
    rw (take_more arcs place none c.loop-place-test.true)
    (record {
      within =
          All-append P (take place arcs) _ c.loop-place.invariant.within
          (All-cons P _ [] (c.is_within.ensures.within.0 c.if-not-is_within.false) (All-nil P));
      light =
          All-append Q (take place arcs) _ c.loop-place.invariant.light
          (All-cons Q _ [] c.is_within.ensures.light (All-nil Q));
    })

pub returns-clause-none : goal.returns-clause-none
returns-clause-none c =
    let arcs = c.args.arcs.now in
    subst (All (IsArcBelow c.args.n)) (take_all c.loop-place.place arcs (omega (arith, c.loop-place-test.false)))
    c.loop-place.invariant.within

pub returns-clause-light : goal.returns-clause-light
returns-clause-light c =
    let arcs = c.args.arcs.now in
    subst AreLight (take_all c.loop-place.place arcs (omega (arith, c.loop-place-test.false)))
    c.loop-place.invariant.light
