use Rattle.std.proofs.Common.{◌-◌, ◌≤◌, length}
use Rattle.dimacs_text.specs.reader.FastArc.{HasNoFeed}
use Rattle.session_answer.proofs.conversation.next_feed.Given as goal

abbrev pub invariant-loop-place : goal.invariant-loop-place
invariant-loop-place l = record {
  from : l.from ≤ l.place;
  inside : l.place ≤ length l.bytes;
  none : HasNoFeed l.bytes l.from l.place;
}

abbrev pub decreases-loop-place : goal.decreases-loop-place
decreases-loop-place l = length l.bytes - l.place
