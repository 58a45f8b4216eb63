use Rattle.std.proofs.Common.{◌<◌}
use Rattle.csr_graph.specs.Graph.{Graph}
use Rattle.csr_graph.specs.Bounds.{AreBounds, AreBoundsAt, bound_of}
use Rattle.csr_graph.proofs.bounds.Bounds.bound.Given as goal

abbrev pub invariant-loop-i : goal.invariant-loop-i
invariant-loop-i l =
    (graph : Graph) → AreBounds graph l.self → l.v < graph.n
    → AreBoundsAt graph l.self.targets.now l.v (bound_of l.self.unit l.units)
