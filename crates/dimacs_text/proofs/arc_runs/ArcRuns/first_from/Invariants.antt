use Rattle.std.proofs.Common.{List, ℕ, IfSome}
use Rattle.dimacs_text.specs.Reading.{AreRunsOf}
use Rattle.dimacs_text.specs.reader.ArcRuns.{IsRunFrom}
use Rattle.dimacs_text.proofs.arc_runs.ArcRuns.first_from.Given as goal

abbrev pub invariant-loop-run : goal.invariant-loop-run
invariant-loop-run l = (bytes : List ℕ) → AreRunsOf bytes l.fn.self
    → IfSome l.fn.other (λ run. IsRunFrom bytes l.fn.from run.now)
    → IfSome l.first (λ run. IsRunFrom bytes l.fn.from run.now)
