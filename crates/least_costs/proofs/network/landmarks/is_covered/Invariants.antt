use Rattle.std.specs.Bool.{⊤}
use Rattle.least_costs.proofs.network.landmarks.is_covered.Given as goal

abbrev pub invariant-loop-other : goal.invariant-loop-other
invariant-loop-other l = ⊤
