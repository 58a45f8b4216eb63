use Rattle.std.proofs.Common.{take}
use Rattle.near_labels.specs.Meeting.{AreAtLeast}
use Rattle.near_labels.proofs.both_ways.least_weight.Given as goal

abbrev pub invariant-loop-place : goal.invariant-loop-place
invariant-loop-place l = AreAtLeast l.least (take l.place l.rows.arcs)
