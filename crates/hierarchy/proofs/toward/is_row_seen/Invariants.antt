use Rattle.std.proofs.Common.{◌≡◌, true, false, take}
use Rattle.std.specs.Prelude.{All, slice_index_or}
use Rattle.hierarchy.proofs.toward.is_row_seen.Given as goal

abbrev pub invariant-loop-target : goal.invariant-loop-target
invariant-loop-target l = All (λ target. slice_index_or l.seen target.head false ≡ true) (take l.target-index l.row)
