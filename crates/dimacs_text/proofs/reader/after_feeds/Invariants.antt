use Rattle.std.proofs.Common.{◌≡◌, ◌+◌, ◌<◌, take}
use Rattle.dimacs_text.proofs.MissingLines.{feeds}
use Rattle.dimacs_text.proofs.reader.after_feeds.Given as goal

abbrev pub invariant-loop-place : goal.invariant-loop-place
invariant-loop-place l = record { count : feeds (take l.place l.bytes) + l.left ≡ l.count; more : 0 < l.left }
