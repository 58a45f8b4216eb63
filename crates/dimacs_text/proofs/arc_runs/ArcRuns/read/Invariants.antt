use Rattle.std.proofs.Common.{◌≤◌, length, max}
use Rattle.dimacs_text.specs.Reading.{AreRunsOf, most_parts, run_count}
use Rattle.dimacs_text.proofs.arc_runs.ArcRuns.read.Given as goal

abbrev pub invariant-loop-place : goal.invariant-loop-place
invariant-loop-place l = record {
  room : l.place ≤ length l.self.runs.items;
  few : run_count l.self ≤ max (run_count l.fn.self) (most_parts l.parts);
  runs : AreRunsOf l.parts.bytes.now l.self;
}
