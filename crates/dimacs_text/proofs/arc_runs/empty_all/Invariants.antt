use Rattle.std.proofs.Common.{List, ℕ, take, All}
use Rattle.dimacs_text.specs.reader.ArcRuns.{IsArcRun}
use Rattle.dimacs_text.proofs.arc_runs.empty_all.Given as goal

abbrev pub invariant-loop-run : goal.invariant-loop-run
invariant-loop-run l = (bytes : List ℕ) → All (IsArcRun bytes) (take l.run-index l.runs)
