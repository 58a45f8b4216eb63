use Rattle.std.proofs.Common.{◌∙◌}
use Rattle.least_costs.proofs.Facts.{taken-more}
use Rattle.cost_examples.specs.Callers.{IsRow}
use Rattle.cost_examples.proofs.matrix.cost_matrix.Goals as goal

pub loop-found-preserved : goal.loop-found-preserved
loop-found-preserved g c =
    let i = c.loop-found.invariant in
    let from = rw c.in_ok-found.was at c.in-Some.ensures.costs in
    record {
      net = c.next.ensures.net ∙ i.net;
      taken =
          rw c.in_ok-push.ensures.items
          (taken-more (λ source row. IsRow c.args.network.now c.args.targets.now source row.items) c.args.sources.now
          c.loop-found.each.left c.next.new.self.left c.loop-found.rows.items c.in_ok-row_of.field-0 i.taken
          c.in-Some.ensures.some c.in-Some.ensures.left
          (rw (from.net_is ∙ i.net, from.start_is) at c.in_ok-row_of.ensures));
    }
