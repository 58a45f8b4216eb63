-- One arc more.
use Rattle.std.proofs.Common.{arith, subst}
use Rattle.std.specs.Prelude.{All, slice_index}
use Rattle.std.proofs.lemmas.List.{take_all}
use Rattle.std.proofs.lemmas.List.Elements.{All-more}
use Rattle.route_walks.specs.declared.graph.ArcRec.{ArcRec}
use Rattle.route_walks.specs.Bounds.{IsRelaxedBackward}
use Rattle.least_costs.proofs.preparing.choosing.are_relaxed_backward.Goals as goal

pub loop-arc-preserved : goal.loop-arc-preserved
loop-arc-preserved c =
    let labels = c.args.labels.now in
    let none : ArcRec = record { tail = 0; head = 0; weight = 0 } in
    All-more (IsRelaxedBackward (slice_index labels)) c.args.arcs.now c.loop-arc.arc-index none c.loop-arc-test.true
    c.loop-arc.invariant (omega (arith, c.if-labels-arc.false, c.offer.ensures))

pub returns : goal.returns
returns c =
    λ _.
    subst (All (IsRelaxedBackward (slice_index c.args.labels.now)))
    (take_all c.loop-arc.arc-index c.args.arcs.now c.loop-arc-test.false) c.loop-arc.invariant
