use Rattle.std.proofs.Common.{◌++◌}
use Rattle.csr_graph.specs.Changes.{without}
use Rattle.csr_graph.specs.Removal.{AreJoinedUpTo}
use Rattle.csr_graph.proofs.csr.Csr.changed.Given as goal

abbrev pub invariant-loop-tail : goal.invariant-loop-tail
invariant-loop-tail l =
    AreJoinedUpTo l.from l.tail (without l.removed l.self.arcs ++ l.added) l.touched.marks.items l.firsts.items
    l.targets.items
