use Rattle.std.proofs.Common.{length, ◌-◌}
use Rattle.near_labels.proofs.aim.first_above.Given as goal

abbrev pub decreases-loop-place : goal.decreases-loop-place
decreases-loop-place l = length l.targets - l.place
