use Rattle.std.proofs.Common.{◌≡◌, ◌+◌, ◌-◌, arith}
use Rattle.csr_graph.specs.Graph.{first_place}
use Rattle.csr_graph.proofs.Facts.{first_place_rises}
use Rattle.csr_graph.proofs.Removals.{firsts_more, same_offset}
use Rattle.csr_graph.proofs.changes.put_firsts.Goals as goal

pub overflow_sub-first : goal.overflow_sub-first
overflow_sub-first c =
    omega (
      arith,
      c.first_of-first.ensures.place,
      c.first.ensures.place,
      first_place_rises c.args.rows.now.arcs c.args.from c.loop-u.u (omega (arith, c.loop-u.auto.u)),
    )

pub loop-u-preserved : goal.loop-u-preserved
loop-u-preserved c arcs same base was =
    let rows = c.args.rows.now.arcs in
    let u = c.loop-u.u in
    let offset = same_offset arcs rows c.args.from c.args.to u same (omega (arith, c.loop-u.auto.u))
    (omega (arith, c.loop-u-test.true)) in
    let place : c.args.base + (c.first.result - c.first_of-first.result) ≡ first_place arcs u =
    omega (arith, offset, base, c.first_of-first.ensures.place, c.first.ensures.place) in
    rw c.in_ok-push.ensures.items
    (firsts_more u _ arcs c.loop-u.firsts.items (c.loop-u.invariant arcs same base was) place)
