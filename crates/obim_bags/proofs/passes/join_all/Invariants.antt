use Rattle.std.proofs.Common.{◌≡◌, ◌+◌, ◌≤◌, vec_len}
use Rattle.std.specs.Prelude.{All}
use Rattle.crossbeam_queue.specs.SegTies.{IsSegPassOf}
use Rattle.obim_bags.specs.Bags.{IsPassAmong, AreJoined}
use Rattle.obim_bags.proofs.passes.join_all.Given as goal

abbrev pub invariant-loop-other : goal.invariant-loop-other
invariant-loop-other l = record {
  rest : All (IsPassAmong l.queue l.workers) l.passes.items;
  pass : IsSegPassOf l.queue l.one;
  workers : l.one.me.view.client.workers ≡ l.workers;
  live : 1 ≤ l.one.me.view.client.share;
  count : l.one.me.view.client.share + vec_len l.passes ≡ l.count;
  joined : AreJoined l.fn.passes.items l.passes.items l.one.me.view.client;
}

abbrev pub decreases-loop-other : goal.decreases-loop-other
decreases-loop-other l = vec_len l.passes
