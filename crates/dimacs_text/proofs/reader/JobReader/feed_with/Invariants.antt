use Rattle.std.proofs.Common.{◌≤◌, ◌+◌, ◌-◌, length, take}
use Rattle.dimacs_text.specs.Reading.{Reads}
use Rattle.dimacs_text.proofs.reader.JobReader.feed_with.Given as goal

abbrev pub invariant-loop-run : goal.invariant-loop-run
invariant-loop-run l = record {
  inside : l.at ≤ length l.bytes;
  before : l.at ≤ l.from;
  reads : Reads l.fn.self l.self (take l.at l.bytes);
}

abbrev pub decreases-loop-run : goal.decreases-loop-run
decreases-loop-run l = length l.bytes + 1 - l.from
