use Rattle.csr_graph.proofs.Facts.{rows_are_runs}
use Rattle.csr_graph.proofs.laws.rows_are_runs.Goals as goal

pub returns : goal.returns
returns c = rows_are_runs
