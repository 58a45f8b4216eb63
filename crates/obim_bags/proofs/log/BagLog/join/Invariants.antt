-- What the joined seat knows, and the accesses kept so far.
use Rattle.std.proofs.Common.{◌≡◌, ◌++◌, false, [], length, reverse}
use Rattle.std.specs.Prelude.{All}
use Rattle.obim_bags.specs.Logs.{MirrorSeen}
use Rattle.obim_bags.specs.Settling.{KnowsAllOf, lists_of, accesses_of}
use Rattle.obim_bags.proofs.log.BagLog.join.Given as goal

abbrev pub invariant-loop-mirror : goal.invariant-loop-mirror
invariant-loop-mirror l = record {
  log : l.seat.table_id ≡ l.fn.self;
  logs : All (λ (mirror : MirrorSeen). mirror.log ≡ l.fn.self) l.mirrors.items;
  slots : l.seat.me.1 ≡ [];
  holds : l.seat.me.0.holds ≡ false;
  known : KnowsAllOf l.seat.me.0 (lists_of l.held.items);
  held : lists_of l.held.items ++ reverse (accesses_of l.mirrors.items) ≡ reverse (accesses_of l.fn.mirrors.items);
}

abbrev pub decreases-loop-mirror : goal.decreases-loop-mirror
decreases-loop-mirror l = length l.mirrors.items
