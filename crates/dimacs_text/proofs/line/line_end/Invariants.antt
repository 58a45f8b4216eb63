use Rattle.std.proofs.Common.{◌-◌, ◌≤◌, ◌<◌, length}
use Rattle.dimacs_text.specs.reader.FastArc.{HasNoFeed}
use Rattle.dimacs_text.proofs.line.line_end.Given as goal

abbrev pub invariant-loop-end : goal.invariant-loop-end
invariant-loop-end l = record {
  after : l.start ≤ l.end;
  inside : l.end < length l.bytes;
  none : HasNoFeed l.bytes l.start l.end;
}

abbrev pub decreases-loop-end : goal.decreases-loop-end
decreases-loop-end l = length l.bytes - l.end
