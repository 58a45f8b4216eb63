use Rattle.session_answer.proofs.kind_graph.KindGraph.derived.Goals as goal

pub returns-clause-holds : goal.returns-clause-holds
returns-clause-holds g c graph holds = record {
  network = c.in_ok-graphs.ensures.network graph.n graph.arcs holds.network;
  alone = c.in_ok-graphs.ensures.grown;
  count = holds.count;
}
