use Rattle.std.proofs.Common.{◌-◌, ◌+◌, ◌≤◌, length, drop, vec_len, vec_capacity}
use Rattle.dimacs_text.specs.reader.Drafts.{ReadsArcs}
use Rattle.dimacs_text.proofs.fast_arc.read_run.Given as goal

abbrev pub invariant-loop-count : goal.invariant-loop-count
invariant-loop-count l = record {
  place : l.start + l.count ≤ l.at;
  inside : l.at ≤ length l.bytes;
  few : l.count ≤ l.room;
  room : vec_len l.arcs + l.room ≤ vec_capacity l.arcs + l.count;
  reads : ReadsArcs l.vertices (drop l.start l.bytes) l.fn.arcs.items l.arcs.items l.count (drop l.at l.bytes);
}

abbrev pub decreases-loop-count : goal.decreases-loop-count
decreases-loop-count l = l.room - l.count
