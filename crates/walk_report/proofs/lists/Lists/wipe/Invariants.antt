use Rattle.std.proofs.Common.{length}
use Rattle.walk_report.specs.Kept.{AreKept}
use Rattle.walk_report.proofs.lists.Lists.wipe.Given as goal

abbrev pub invariant-loop-v : goal.invariant-loop-v
invariant-loop-v l = AreKept (length l.fn.self.hops.items) l.self

abbrev pub decreases-loop-v : goal.decreases-loop-v
decreases-loop-v l = length l.self.queue.items
