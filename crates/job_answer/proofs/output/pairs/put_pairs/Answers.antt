use Rattle.std.proofs.Common.{◌∙◌, sym}
use Rattle.job_answer.specs.Graphs.{growth_of}
use Rattle.job_answer.proofs.Growing.{walked-lines}
use Rattle.job_answer.proofs.Sinks.{puts-as, stops}
use Rattle.job_answer.proofs.output.pairs.put_pairs.Goals as goal

pub returns-then-has_walks : goal.returns-then-has_walks
returns-then-has_walks g c =
    let graphs = c.args.queries.graphs.now in
    puts-as g.W.Write.contents
    (λ text. walked-lines c.args.lines graphs.network.n graphs.network.arcs (growth_of graphs.grown) c.args.queries.pairs.now
    text (sym c.has_walks.ensures ∙ c.if-has_walks.true))
    c.put_all_walked.ensures

pub returns-in-Err : goal.returns-in-Err
returns-in-Err g c = stops g.W.Write.contents c.fail.ensures
