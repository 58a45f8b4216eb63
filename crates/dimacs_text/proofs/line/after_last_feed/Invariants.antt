use Rattle.std.proofs.Common.{◌≤◌, length}
use Rattle.dimacs_text.specs.reader.FastArc.{HasNoFeed}
use Rattle.dimacs_text.proofs.line.after_last_feed.Given as goal

abbrev pub invariant-loop-end : goal.invariant-loop-end
invariant-loop-end l = record {
  inside : l.end ≤ length l.bytes;
  none : HasNoFeed l.bytes l.end (length l.bytes);
}

abbrev pub decreases-loop-end : goal.decreases-loop-end
decreases-loop-end l = l.end
