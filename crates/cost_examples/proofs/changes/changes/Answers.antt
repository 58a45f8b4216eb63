use Rattle.std.proofs.Common.{◌∙◌}
use Rattle.least_costs.proofs.Facts.{cost-told, taken-more}
use Rattle.cost_examples.specs.Callers.{IsChange}
use Rattle.cost_examples.proofs.changes.changes.Goals as goal

pub loop-found-preserved : goal.loop-found-preserved
loop-found-preserved g c =
    let net = c.args.network.now in
    let grown = c.args.grown.now in
    let target = c.args.target in
    let i = c.loop-found.invariant in
    let costs = c.in_ok-costs.costs in
    let after = c.in_ok-costs_after.field-0 in
    let from = rw c.in_ok-costs.was at c.in-Some.ensures.costs in
    let here = cost-told costs.net costs.start target c.to-before.result c.to-before.ensures.some c.to-before.ensures.none in
    let there = cost-told after.net after.start target c.to-after.result c.to-after.ensures.some c.to-after.ensures.none in
    record {
      net = c.next.ensures.net ∙ i.net;
      taken =
          rw c.in_ok-push.ensures.items
          (taken-more (IsChange net grown target) c.args.sources.now c.loop-found.each.left c.next.new.self.left
          c.loop-found.changes.items _ i.taken c.in-Some.ensures.some c.in-Some.ensures.left
          (record {
            before = rw (from.net_is ∙ i.net, from.start_is) at here;
            after =
                rw (c.in_ok-costs_after.ensures.net, c.in_ok-costs_after.ensures.start ∙ from.start_is) at there;
          }));
    }
