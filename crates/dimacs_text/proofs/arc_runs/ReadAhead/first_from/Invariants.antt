use Rattle.std.proofs.Common.{List, ℕ, IfSome}
use Rattle.dimacs_text.specs.Reading.{IsReadAhead}
use Rattle.dimacs_text.specs.reader.ArcRuns.{IsRunFrom}
use Rattle.dimacs_text.proofs.arc_runs.ReadAhead.first_from.Given as goal

abbrev pub invariant-loop-list : goal.invariant-loop-list
invariant-loop-list l = (bytes : List ℕ) → IsReadAhead bytes l.fn.self
    → IfSome l.first (λ run. IsRunFrom bytes l.fn.from run.now)
