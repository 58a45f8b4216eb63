use Rattle.std.proofs.Common.{arith}
use Rattle.std.proofs.lemmas.Grind.{common_steps, elements}
use Rattle.route_walks.proofs.operators.both_ways.Goals as goal

pub loop-arc-preserved : goal.loop-arc-preserved
loop-arc-preserved c = record {
  exact = grind (arith, common_steps);
  count = grind (arith, common_steps);
  graph = λ n graph. grind (arith, elements, c.loop-arc.invariant.graph n graph, graph);
}
