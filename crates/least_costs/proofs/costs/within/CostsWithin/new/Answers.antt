-- Labels are least up to the number after the bound, and further.
use Rattle.std.proofs.Common.{arith, ◌+◌}
use Rattle.std.specs.Prelude.{min}
use Rattle.route_walks.specs.declared.graph.TheConstants.{INF}
use Rattle.route_walks.specs.Operators.{seeds_from}
use Rattle.label_words.specs.Closed.{closed_labels}
use Rattle.least_costs.proofs.Bounds.{lower-limit}
use Rattle.least_costs.proofs.costs.within.CostsWithin.new.Goals as goal

pub invariant_of-result : goal.invariant_of-result
invariant_of-result c =
    let net = c.args.network.now in
    let reached = c.requires.reached in
    let up =
    lower-limit c.args.reached.limit (min (c.args.bound + 1) INF) net.n net.arcs (seeds_from c.args.source)
    (closed_labels c.args.reached.closed) reached.limit reached.labels in
    rw (c.of.ensures, c.into_labels.ensures)
    (record {
      network = c.n.ensures.network;
      source = c.requires.source;
      within = omega (arith, c.ranges.bound.fits);
      up = up;
    })
