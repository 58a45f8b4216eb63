-- The mirrors made so far are new, and there is room for the others.
use Rattle.std.proofs.Common.{◌≡◌, ◌≤◌, replicate}
use Rattle.obim_bags.specs.Logs.{new_mirror}
use Rattle.obim_bags.proofs.log.BagLog.open.Given as goal

abbrev pub invariant-loop-worker : goal.invariant-loop-worker
invariant-loop-worker l = record {
  mirrors : l.mirrors.items ≡ replicate l.worker (new_mirror l.table.shared.table_id);
  room : l.workers ≤ l.mirrors.cap;
  table : l.table ≡ l.initial.table;
}
