use Rattle.std.proofs.Common.{◌≡◌, filter, map, take}
use Rattle.std.specs.Prelude.{◌==◌}
use Rattle.csr_graph.specs.Graph.{arc_to}
use Rattle.least_costs.proofs.network.between.list_between.Given as goal

abbrev pub invariant-loop-target : goal.invariant-loop-target
invariant-loop-target l = l.found.items ≡ filter (λ arc. arc.head == l.fn.head) (map (arc_to l.fn.tail) (take l.target-index l.target-items))
