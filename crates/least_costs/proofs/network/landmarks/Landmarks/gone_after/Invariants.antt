use Rattle.least_costs.specs.Landmarks.{AreAmong, counted_in}
use Rattle.least_costs.proofs.network.landmarks.Landmarks.gone_after.Given as goal

abbrev pub invariant-loop-pair : goal.invariant-loop-pair
invariant-loop-pair l = AreAmong (counted_in l.self) l.gone.items
