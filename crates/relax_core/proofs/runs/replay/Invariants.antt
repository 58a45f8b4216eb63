use Rattle.relax_core.proofs.Replaying.{IsReplaying}
use Rattle.relax_core.proofs.runs.replay.Given as goal

abbrev pub invariant-loop-i : goal.invariant-loop-i
invariant-loop-i l = IsReplaying l.csr l.seeds l.events l.i l.core
