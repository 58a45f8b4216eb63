use Rattle.std.proofs.Common.{None}
use Rattle.job_answer.proofs.Sinks.{puts-only}
use Rattle.job_answer.proofs.Told.{raw-told, totals-told}
use Rattle.job_answer.proofs.output.blocks.put_source_block.Goals as goal

pub returns-in-Raw : goal.returns-in-Raw
returns-in-Raw g c =
    let net = c.args.network.now in
    puts-only g.W.Write.contents ((c.lines_are_unique.ensures c.args.lines net.n net.arcs None).0 c.args.source)
    (raw-told net c.args.source c.args.lines c.in-Raw.pairs c.args.costs.now
    c.labels-labels.result.now c.in-Raw.is c.requires.costs
    c.labels-labels.ensures.labels)
    c.put_raw_block.ensures

pub returns-in-Totals : goal.returns-in-Totals
returns-in-Totals g c =
    let net = c.args.network.now in
    puts-only g.W.Write.contents ((c.lines_are_unique.ensures c.args.lines net.n net.arcs None).0 c.args.source)
    (totals-told net c.args.source c.args.lines c.args.costs.now c.labels-labels.result.now c.in-Totals.is c.requires.costs
    c.labels-labels.ensures.labels)
    c.put_totals_line.ensures
