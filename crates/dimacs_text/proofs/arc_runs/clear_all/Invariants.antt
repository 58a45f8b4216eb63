use Rattle.std.proofs.Common.{List, ℕ, take, All}
use Rattle.dimacs_text.specs.Reading.{AreRunsOf}
use Rattle.dimacs_text.proofs.arc_runs.clear_all.Given as goal

abbrev pub invariant-loop-list : goal.invariant-loop-list
invariant-loop-list l = (bytes : List ℕ) → All (AreRunsOf bytes) (take l.list-index l.lists)
