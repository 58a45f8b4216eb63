-- Below the limit the walks are those of the least labels.
use Rattle.std.proofs.Common.{arith}
use Rattle.job_answer.proofs.WalksBelow.{walked-below}
use Rattle.job_answer.proofs.output.walked_pairs.walked_from.Goals as goal

pub returns-clause-walked : goal.returns-clause-walked
returns-clause-walked c =
    let net = c.args.network.now in
    let is = c.n.ensures.network in
    walked-below c.least_labels_exist.ensures c.hops_and_parents_exist.ensures c.walks_below_agree.ensures c.args.limit net.n
    net.arcs c.args.source _ (omega (arith, c.ranges.limit.fits)) is.few is.ends c.requires.source c.requires.labels
    (rw c.deref.ensures.value at c.in_ok-walks.ensures)
