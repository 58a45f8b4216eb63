use Rattle.csr_graph.proofs.Removals.{left_row}
use Rattle.csr_graph.proofs.changes.put_left.Goals as goal

pub returns : goal.returns
returns c pairs are =
    let same = left_row pairs c.args.keys.now c.args.rows.now c.args.tail c.row.ensures.in_rows are in
    let put = rw (c.row.ensures.targets, same) at c.put_unkeyed.ensures in
    put are.rising
