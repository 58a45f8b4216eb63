-- A seat that found the slot taken is as it was.
use Rattle.std.proofs.Common.{◌≡◌}
use Rattle.obim_bags.proofs.log.BagLog.take.Given as goal

abbrev pub invariant-loop : goal.invariant-loop
invariant-loop g l = record {
  can_next : (goal.iterator-loop g).can_next l.iterator';
  finite : (goal.iterator-loop g).is_finite l.iterator';
  table : l.seat.table_id ≡ l.initial.seat.table_id;
  me : l.seat.me ≡ l.initial.seat.me;
}
