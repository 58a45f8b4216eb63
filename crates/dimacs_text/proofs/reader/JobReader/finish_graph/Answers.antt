use Rattle.dimacs_text.specs.Jobs.{content_of}
use Rattle.dimacs_text.proofs.GraphTextLemmas.{fault_over, graph_text, lines_after, never_over, next_line}
use Rattle.dimacs_text.proofs.reader.JobReader.finish_graph.Goals as goal

pub returns-in-Err-clause-fault : goal.returns-in-Err-clause-fault
returns-in-Err-clause-fault c text more r over =
    fault_over c.args.self text more c.in-Err.fault over r (c.in-Err.ensures.fault text r)

pub returns-in-Ok-clause-graph : goal.returns-in-Ok-clause-graph
returns-in-Ok-clause-graph c text r =
    graph_text c.args.self text (content_of c.in-Ok.graph) c.if-is_whole.ensures.whole r (c.in-Ok.ensures.job text r)

pub returns-in-Ok-clause-next : goal.returns-in-Ok-clause-next
returns-in-Ok-clause-next c text r = next_line c.args.self text c.if-is_whole.ensures.whole r

pub returns-in-Ok-clause-joined : goal.returns-in-Ok-clause-joined
returns-in-Ok-clause-joined c text more r = lines_after c.args.self text c.if-is_whole.ensures.whole r more

pub returns-in-Ok-2-clause-fault : goal.returns-in-Ok-2-clause-fault
returns-in-Ok-2-clause-fault c text more r over =
    absurd
    (never_over c.args.self text (content_of c.in-Ok-2.field-0) over r (c.in-Ok-2.ensures.job text r)
    (λ has. let told = c.has_graph-is_whole.ensures.told has in let none = c.if-is_whole.false in cc))
