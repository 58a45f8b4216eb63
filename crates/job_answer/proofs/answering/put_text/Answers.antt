use Rattle.job_answer.specs.Graphs.{growth_of}
use Rattle.job_answer.proofs.Replies.{pairs-text, sources-text}
use Rattle.job_answer.proofs.Sinks.{puts-as}
use Rattle.job_answer.proofs.answering.put_text.Goals as goal

pub returns-in_default-Sources : goal.returns-in_default-Sources
returns-in_default-Sources g c =
    let kind = c.args.context.now.asked.now.answer in
    let by = c.args.question.now.lines in
    let graphs = c.args.question.now.graphs.now in
    let sources = c.in_default-Sources.sources.items in
    rw c.in_default-Sources.is-1
    (puts-as g.W.Write.contents
    (λ text. (sources-text kind by graphs.network.n graphs.network.arcs (growth_of graphs.grown) sources text
    c.in_default-Sources.not-Components-0).1)
    (rw c.deref.ensures.value at c.put_sources.ensures))

pub returns-in_default-Pairs : goal.returns-in_default-Pairs
returns-in_default-Pairs g c =
    let kind = c.args.context.now.asked.now.answer in
    let by = c.args.question.now.lines in
    let graphs = c.args.question.now.graphs.now in
    let pairs = c.in_default-Pairs.pairs.items in
    rw c.in_default-Pairs.is-1
    (puts-as g.W.Write.contents
    (λ text. (pairs-text kind by graphs.network.n graphs.network.arcs (growth_of graphs.grown) pairs text
    c.in_default-Pairs.not-Components-0 (rw c.in_default-Pairs.is-1 at c.requires.sources)).1)
    (rw c.deref-in_default-Pairs.ensures.value at c.put_pairs.ensures))
