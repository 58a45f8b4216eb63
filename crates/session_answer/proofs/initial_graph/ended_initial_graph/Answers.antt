use Rattle.dimacs_text.specs.Jobs.{content_of}
use Rattle.session_answer.proofs.initial_graph.ended_initial_graph.Goals as goal

pub returns-in-Ok-clause-limits : goal.returns-in-Ok-clause-limits
returns-in-Ok-clause-limits c text read = c.in-Ok.ensures.within text read

pub returns-in-Ok-clause-next : goal.returns-in-Ok-clause-next
returns-in-Ok-clause-next c text read =
    c.next_line-line.ensures text (content_of c.in-Ok.graph) read (c.in-Ok.ensures.job text read)

pub returns-in-Err-clause-says : goal.returns-in-Err-clause-says
returns-in-Err-clause-says c text read = c.fault_of.ensures text (c.in-Err.ensures.fault text read)
