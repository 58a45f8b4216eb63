-- Each turn sows one more seed.
use Rattle.std.proofs.Common.{take}
use Rattle.std.proofs.lemmas.List.{take_more}
use Rattle.route_walks.specs.declared.graph.Seed.{Seed}
use Rattle.label_words.proofs.opening.sow_all.Goals as goal

pub sow-requires : goal.sow-requires
sow-requires c =
    let i = c.loop-seed.seed-index in
    (c.args.n, take i c.args.seeds.now, c.requires.seeds i _ c.loop-seed-test.true, c.loop-seed.invariant)

pub loop-seed-preserved : goal.loop-seed-preserved
loop-seed-preserved c =
    let none : Seed = record { vertex = 0; start = 0 } in
    let i = c.loop-seed.seed-index in
    rw (take_more c.args.seeds.now i none c.loop-seed-test.true)
    (c.sow.ensures c.args.n (take i c.args.seeds.now) c.loop-seed.invariant
    (c.requires.seeds i none c.loop-seed-test.true))
