-- All added arcs were gone over.
use Rattle.std.proofs.Common.{◌≡◌, take, arith}
use Rattle.std.proofs.lemmas.List.{take_all}
use Rattle.obim_engine.proofs.Grown.{grown_pause}
use Rattle.obim_engine.proofs.growing.grow.Goals as goal

pub returns-clause-pause : goal.returns-clause-pause
returns-clause-pause c =
    let added = c.args.added.now in
    let all : take c.loop-arc.arc-index added ≡ added = take_all c.loop-arc.arc-index added (omega arith) in
    let marked = rw all at c.loop-arc.invariant.1 in
    λ graph grown seeds pause grows.
    grown_pause graph grown seeds added c.args.rest c.loop-arc.rest c.loop-arc.invariant.0 marked pause grows
