use Rattle.std.proofs.Common.{◌≡◌, ◌++◌}
use Rattle.crossbeam_queue.specs.SegTies.{IsSegPassOf}
use Rattle.obim_bags.proofs.passes.take_all.Given as goal

abbrev pub invariant-loop : goal.invariant-loop
invariant-loop g l = record {
  pass : IsSegPassOf l.queue l.pass;
  tally : l.pass.me.view.client
      ≡ record l.fn.pass.me.view.client { got = l.fn.pass.me.view.client.got ++ l.left.items };
}
