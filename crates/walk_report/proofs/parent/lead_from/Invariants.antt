use Rattle.std.proofs.Common.{◌≤◌, slice_index, take}
use Rattle.walk_report.specs.Parent.{IsLeading}
use Rattle.walk_report.proofs.Filling.{AreFilled}
use Rattle.walk_report.proofs.Tails.{AreLed}
use Rattle.walk_report.proofs.parent.lead_from.Given as goal

abbrev pub invariant-loop-head : goal.invariant-loop-head
invariant-loop-head l =
    let label = slice_index l.labels in
    let hop = slice_index l.hops in
    AreLed l.csr.n l.csr.arcs label hop l.tail l.fn.parents l.parents
    × AreFilled (IsLeading label hop) (λ parent. parent ≤ l.tail) l.parents l.tail (take l.head-index l.head-items)
