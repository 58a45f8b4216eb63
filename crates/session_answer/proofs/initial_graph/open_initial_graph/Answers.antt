use Rattle.std.proofs.Common.{◌++◌}
use Rattle.session_answer.proofs.initial_graph.open_initial_graph.Goals as goal

pub returns-in-Err-clause-says : goal.returns-in-Err-clause-says
returns-in-Err-clause-says c text more read =
    c.fault_of.ensures (text ++ more) (c.in-Err.ensures.fault text more read c.requires.over)
