use Rattle.std.proofs.Common.{◌≡◌, ◌∙◌, length, arith}
use Rattle.csr_graph.proofs.Removals.{joined_rows, targets_end}
use Rattle.csr_graph.proofs.changes.put_rows.Goals as goal

pub returns : goal.returns
returns c arcs same are =
    let targets = c.args.targets.now.items in
    let long : c.len.result ≡ length targets = omega (arith, c.len.ensures) in
    let end = targets_end c.args.from arcs c.args.firsts.now.items targets are in
    rw (c.in_ok-extend_from_slice.ensures.items, c.targets_between.ensures)
    (joined_rows c.args.from c.args.to arcs c.args.rows.now.arcs c.put_firsts.new.firsts.items targets c.requires.order same
    (c.in_ok-put_firsts.ensures arcs same (long ∙ end) are.begin) are.leads)
