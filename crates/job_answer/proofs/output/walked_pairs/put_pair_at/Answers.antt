use Rattle.std.proofs.Common.{◌∙◌, refl, true, sym}
use Rattle.job_answer.specs.Graphs.{growth_of}
use Rattle.job_answer.proofs.Growing.{walked-blocks}
use Rattle.job_answer.proofs.Sinks.{puts-line, puts-only, stopped}
use Rattle.job_answer.proofs.output.walked_pairs.put_pair_at.Goals as goal

pub returns-then-has_stopped : goal.returns-then-has_stopped
returns-then-has_stopped g c = stopped g.W.Write.contents c.args.sink.now (sym c.has_stopped.ensures ∙ c.if-has_stopped.true)

pub returns : goal.returns
returns g c =
    let graphs = c.args.graphs.now in
    puts-only g.W.Write.contents
    ((c.blocks_are_unique.ensures true graphs.network.n graphs.network.arcs (growth_of graphs.grown)).1 _)
    (walked-blocks graphs.network graphs.grown c.args.pair c.args.walked.now c.args.after.now c.requires.graphs.grows
    c.requires.walked c.requires.after)
    (puts-line g.W.Write.contents c.args.sink.now _ _ c.put_walked_lines-put.result c.put_walked_lines-put.ensures.put refl
    refl refl refl c.end.ensures)
