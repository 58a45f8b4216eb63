use Rattle.std.proofs.Common.{◌≡◌, ◌<◌, ◌≤◌, arith, get_or, length, subst}
use Rattle.std.proofs.lemmas.List.{take_all}
use Rattle.std.proofs.lemmas.List.Elements.{All-more}
use Rattle.std.proofs.lemmas.Option.{slice_get-get_or}
use Rattle.route_walks.specs.declared.graph.ArcRec.{ArcRec}
use Rattle.csr_graph.proofs.Facts.{no_arc}
use Rattle.near_labels.specs.Meeting.{AreAtLeast}
use Rattle.near_labels.proofs.both_ways.least_weight.Goals as goal

pub loop-place-preserved : goal.loop-place-preserved
loop-place-preserved c =
    let arcs = c.args.rows.now.arcs in
    let place = c.loop-place.place in
    let here : place < length arcs = omega (arith, c.loop-place-test.true, c.arc_count-place-end.ensures.places) in
    let weight : (get_or arcs place no_arc).weight ≡ c.target.result.weight =
    rw (slice_get-get_or arcs place no_arc here) at c.target.ensures.weight in
    All-more (λ (arc : ArcRec). c.min-least.result ≤ arc.weight) arcs place no_arc here
    (λ k d lt. omega (arith, c.min-least.ensures, c.loop-place.invariant k d lt))
    (omega (arith, c.min-least.ensures, weight))

pub returns : goal.returns
returns c =
    let arcs = c.args.rows.now.arcs in
    subst (AreAtLeast c.loop-place.least)
    (take_all c.loop-place.place arcs (omega (arith, c.loop-place-test.false, c.arc_count-place-end.ensures.places)))
    c.loop-place.invariant
