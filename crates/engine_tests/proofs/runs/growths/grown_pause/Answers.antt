use Rattle.engine_tests.proofs.runs.growths.grown_pause.Goals as goal

pub returns-clause-pause : goal.returns-clause-pause
returns-clause-pause c =
    let grown = c.in_ok-grown.ensures in
    c.grow.ensures.pause c.args.csr.now c.in_ok-grown.grown c.args.seeds.now c.requires.pause
    (record { vertices = grown.vertices; arcs = grown.arcs })
