use Rattle.std.proofs.Common.{◌≡◌, ◌++◌, take}
use Rattle.std.specs.List.Sorted.{IsNonDecreasing}
use Rattle.csr_graph.specs.Removal.{unkeyed}
use Rattle.csr_graph.proofs.changes.put_unkeyed.Given as goal

abbrev pub invariant-loop-target : goal.invariant-loop-target
invariant-loop-target l =
    IsNonDecreasing l.keys
    → l.targets.items ≡ l.fn.targets.items ++ unkeyed l.keys l.tail (take l.target-index l.row)
