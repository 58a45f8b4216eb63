use Rattle.std.proofs.Common.{◌∙◌, sym}
use Rattle.least_costs.proofs.Facts.{parts_sync}
use Rattle.job_answer.specs.Graphs.{growth_of}
use Rattle.job_answer.proofs.Shared.{ask_sync, count_sync, graphs_sync, lines_sync}
use Rattle.job_answer.proofs.Sinks.{puts-only, puts-text, stopped}
use Rattle.job_answer.proofs.output.blocks.put_block_at.Goals as goal

pub take_block-text-requires-sync-S : goal.take_block-text-requires-sync-S
take_block-text-requires-sync-S g c κs within = search (graphs_sync, ask_sync, lines_sync, count_sync, parts_sync) depth 24 fits 20000

pub returns-then-has_stopped-clause-block : goal.returns-then-has_stopped-clause-block
returns-then-has_stopped-clause-block g c =
    stopped g.W.Write.contents c.args.sink.now (sym c.has_stopped.ensures ∙ c.if-has_stopped.true)

pub returns-in-Some-clause-block : goal.returns-in-Some-clause-block
returns-in-Some-clause-block g c =
    let tasks = c.args.tasks.now in
    let graphs = tasks.question.graphs.now in
    let only =
    (c.lines_are_unique.ensures tasks.question.lines graphs.network.n graphs.network.arcs (growth_of graphs.grown)).0 in
    puts-only g.W.Write.contents (only _) c.in-Some.ensures.text
    (puts-text g.W.Write.contents c.put_all.ensures.still c.put_all.ensures.put)
