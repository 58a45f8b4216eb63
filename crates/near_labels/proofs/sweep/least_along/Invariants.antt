use Rattle.std.proofs.Common.{◌≡◌, ◌+◌, ◌≤◌, ◌⊎◌, take}
use Rattle.std.specs.Prelude.{All, slice_index}
use Rattle.near_labels.specs.Sweep.{IsOffered}
use Rattle.near_labels.proofs.sweep.least_along.Given as goal

abbrev pub invariant-loop-head : goal.invariant-loop-head
invariant-loop-head l = record {
  falls : l.least ≤ l.label;
  low : All (λ target. l.least ≤ slice_index l.labels target.head + target.weight) (take l.head-index l.row);
  met : (l.least ≡ l.label) ⊎ IsOffered l.row (slice_index l.labels) l.least;
}
