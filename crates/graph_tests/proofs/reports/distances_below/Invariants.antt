use Rattle.route_walks.specs.Limit.{AreLeastLabelsUpTo}
use Rattle.route_walks.specs.Operators.{seeds_from}
use Rattle.graph_tests.proofs.reports.distances_below.Given as goal

abbrev pub invariant-loop-v : goal.invariant-loop-v
invariant-loop-v l = AreLeastLabelsUpTo l.limit l.csr.n l.csr.arcs (seeds_from l.s) l.labels.items
