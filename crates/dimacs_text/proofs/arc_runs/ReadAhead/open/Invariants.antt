use Rattle.std.proofs.Common.{List, ℕ, ◌≤◌, ◌-◌, length, max}
use Rattle.dimacs_text.specs.Reading.{IsReadAhead}
use Rattle.dimacs_text.proofs.arc_runs.ReadAhead.open.Given as goal

abbrev pub invariant-loop-self : goal.invariant-loop-self
invariant-loop-self l = record {
  ahead : (bytes : List ℕ) → IsReadAhead bytes l.initial.self → IsReadAhead bytes l.self;
  few : length l.self.others.items ≤ max (length l.initial.self.others.items) (l.threads - 2);
}

abbrev pub decreases-loop-self : goal.decreases-loop-self
decreases-loop-self l = l.threads - length l.self.others.items
