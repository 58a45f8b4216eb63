use Rattle.csr_graph.proofs.Facts.{runs_are_rows}
use Rattle.csr_graph.proofs.laws.runs_are_rows.Goals as goal

pub returns : goal.returns
returns c = runs_are_rows
