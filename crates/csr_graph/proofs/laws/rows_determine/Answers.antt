use Rattle.csr_graph.proofs.Sorting.{rows_determine}
use Rattle.csr_graph.proofs.laws.rows_determine.Goals as goal

pub returns : goal.returns
returns c = rows_determine
