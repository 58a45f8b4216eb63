use Rattle.std.proofs.Common.{◌+◌, ◌<◌, length}
use Rattle.dimacs_text.specs.reader.FastArc.{AreDigits}
use Rattle.dimacs_text.proofs.fast_arc.digits_at.Given as goal

abbrev pub invariant-loop-count : goal.invariant-loop-count
invariant-loop-count l = record {
  inside : l.start + l.count < length l.bytes;
  led : AreDigits l.bytes l.start (l.start + l.count) l.value;
}
