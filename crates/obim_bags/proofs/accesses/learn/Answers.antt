-- One metric more was learnt.
use Rattle.std.proofs.Common.{◌≡◌, length, Some}
use Rattle.std.specs.Prelude.{slice_get}
use Rattle.obim_bags.specs.Logs.{metrics_of}
use Rattle.obim_bags.specs.Entries.{bags_of}
use Rattle.obim_bags.proofs.Prefixes.{prefix_longer, prefix_next, prefix_trans}
use Rattle.obim_bags.proofs.accesses.learn.Goals as goal

pub loop-index-preserved : goal.loop-index-preserved
loop-index-preserved c =
    let next : slice_get (metrics_of (bags_of c.args.entries.now)) (length c.loop-index.index)
    ≡ Some c.metric_at.result =
    rw c.len-in-loop-index-2.ensures at c.metric_at.ensures.metric in
    record {
      grown = rw c.in_ok-push.ensures.last
          (prefix_trans _ c.loop-index.index _ c.loop-index.invariant.grown (prefix_longer c.loop-index.index _));
      some = rw c.in_ok-push.ensures.last (prefix_next c.loop-index.index _ _ c.loop-index.invariant.some next);
    }
