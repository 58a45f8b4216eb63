use Rattle.std.proofs.Common.{◌≡◌}
use Rattle.crossbeam_queue.specs.SegTies.{IsSegPassOf}
use Rattle.obim_bags.specs.BagRule.{new_tally}
use Rattle.obim_bags.proofs.passes.add_workers.Given as goal

abbrev pub invariant-loop : goal.invariant-loop
invariant-loop l = record {
  pass : IsSegPassOf l.queue l.first;
  shares : l.first.me.view.client ≡ new_tally l.counter l.counter;
}
