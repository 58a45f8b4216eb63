use Rattle.std.proofs.Common.{length}
use Rattle.relax_core.proofs.Opening.{IsStarting}
use Rattle.relax_core.proofs.state.start.Given as goal

abbrev pub invariant-loop-seed : goal.invariant-loop-seed
invariant-loop-seed l = IsStarting l.labels l.marks l.seeds (length l.initial.labels) l.seed-index
