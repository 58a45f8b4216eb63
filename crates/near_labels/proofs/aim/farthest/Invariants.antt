use Rattle.std.proofs.Common.{◌≤◌, take}
use Rattle.std.specs.Prelude.{All, slice_index}
use Rattle.near_labels.proofs.aim.farthest.Given as goal

abbrev pub invariant-loop-target : goal.invariant-loop-target
invariant-loop-target l = All (λ t. slice_index l.labels t ≤ l.most) (take l.target-index l.targets)
