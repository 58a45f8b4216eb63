use Rattle.std.proofs.Common.{◌≡◌, ◌≤◌, ◌+◌, ◌-◌, replicate, vec_len, vec_capacity}
use Rattle.crossbeam_queue.specs.SegTies.{IsSegPassOf}
use Rattle.obim_bags.specs.BagRule.{new_tally}
use Rattle.obim_bags.specs.Bags.{pass_among}
use Rattle.obim_bags.proofs.passes.cut_shares.Given as goal

abbrev pub invariant-loop : goal.invariant-loop
invariant-loop l = record {
  pass : IsSegPassOf l.queue l.first;
  shares : l.first.me.view.client ≡ new_tally (l.workers + 1 - l.counter) l.workers;
  passes : l.passes.items ≡ replicate (l.counter - 1) (pass_among l.queue l.workers);
  len : vec_len l.passes + 1 ≡ l.counter;
  room : l.workers ≤ vec_capacity l.passes;
}
