use Rattle.std.proofs.Common.{◌∙◌, true, sym}
use Rattle.least_costs.proofs.Facts.{parts_sync}
use Rattle.job_answer.specs.Graphs.{growth_of}
use Rattle.job_answer.specs.Tasks.{IsWalkedBlock}
use Rattle.job_answer.proofs.Shared.{ask_sync, count_sync, graphs_sync, lines_sync}
use Rattle.job_answer.proofs.Sinks.{puts-only, puts-text, stopped}
use Rattle.job_answer.proofs.Uniqueness.{blocks-same}
use Rattle.job_answer.proofs.output.walked_pairs.put_lines_at.Goals as goal

pub take_lines-text-requires-sync-S : goal.take_lines-text-requires-sync-S
take_lines-text-requires-sync-S g c κs within = search (graphs_sync, ask_sync, lines_sync, count_sync, parts_sync) depth 24 fits 20000

pub returns-then-has_stopped-clause-blocks : goal.returns-then-has_stopped-clause-blocks
returns-then-has_stopped-clause-blocks g c = stopped g.W.Write.contents c.args.sink.now (sym c.has_stopped.ensures ∙ c.if-has_stopped.true)

pub returns-in-Some-clause-blocks : goal.returns-in-Some-clause-blocks
returns-in-Some-clause-blocks g c =
    let graphs = c.args.tasks.now.queries.graphs.now in
    let only = (c.blocks_are_unique.ensures true graphs.network.n graphs.network.arcs (growth_of graphs.grown)).1 in
    puts-only g.W.Write.contents (blocks-same (IsWalkedBlock graphs) only _) c.in-Some.ensures.text.lines
    (puts-text g.W.Write.contents c.put_all.ensures.still c.put_all.ensures.put)

pub returns-clause-blocks : goal.returns-clause-blocks
returns-clause-blocks g c = rw c.of_queries-solve.ensures.first at c.put_solved_pairs.ensures
