use Rattle.std.proofs.Common.{arith}
use Rattle.job_answer.proofs.Growing.{start-one}
use Rattle.job_answer.proofs.Listed.{near-told, near-walked, near-within}
use Rattle.job_answer.proofs.Sinks.{puts-only}
use Rattle.job_answer.proofs.output.near_block.put_near.Goals as goal

pub put_walked-requires-clause-walked : goal.put_walked-requires-clause-walked
put_walked-requires-clause-walked g c =
    let net = c.args.network.now in
    rw c.deref-in-Some-2.ensures.value
    (λ k d lt j e less.
    omega (
      arith,
      near-within c.args.lines c.args.start net c.args.near.now c.in-Some.found c.requires.near c.in-Some.is k d lt j e less,
      c.n.ensures.network.few,
    ))

pub returns-in-None : goal.returns-in-None
returns-in-None g c =
    let net = c.args.network.now in
    puts-only g.W.Write.contents
    (start-one c.lines_are_unique.ensures c.blocks_are_unique.ensures c.args.lines net.n net.arcs c.args.start)
    (near-told c.least_labels_exist.ensures c.least_labels_are_unique.ensures c.args.lines c.args.start net c.args.near.now
    c.n.ensures.network c.requires.start c.requires.near c.in-None.is)
    (rw c.deref.ensures.value at c.put_listed.ensures)

pub returns-in-Some : goal.returns-in-Some
returns-in-Some g c =
    let net = c.args.network.now in
    let (text, are, block) =
    near-walked c.least_labels_exist.ensures c.least_labels_are_unique.ensures c.hops_and_parents_exist.ensures c.args.lines
    c.args.start net c.args.near.now c.in-Some.found c.n.ensures.network c.requires.start c.requires.near c.in-Some.is in
    puts-only g.W.Write.contents
    (start-one c.lines_are_unique.ensures c.blocks_are_unique.ensures c.args.lines net.n net.arcs c.args.start)
    block
    ((rw (c.deref-in-Some.ensures.value, c.deref-in-Some-2.ensures.value) at c.put_walked.ensures) text are)
