use Rattle.std.proofs.Common.{◌<◌, length, rules, subst}
use Rattle.std.proofs.lemmas.List.{take_all}
use Rattle.std.proofs.lemmas.List.Elements.{All-more}
use Rattle.least_costs.specs.Landmarks.{AreCovered, HasCheaper}
use Rattle.least_costs.proofs.network.landmarks.are_covered.Goals as goal

pub loop-arc-preserved : goal.loop-arc-preserved
loop-arc-preserved c =
    let arcs = c.args.arcs.now in
    let i = c.loop-arc.arc-index in
    let here : i < length arcs = search rules in
    All-more (HasCheaper c.args.others.now) arcs i _ here c.loop-arc.invariant
    (c.is_covered.ensures c.if-not-is_covered.false)

pub returns : goal.returns
returns c =
    λ _.
    subst (λ arcs. AreCovered arcs c.args.others.now) (take_all c.loop-arc.arc-index c.args.arcs.now (search rules))
    c.loop-arc.invariant
