use Rattle.std.proofs.Common.{◌+◌, ◌≤◌, ◌<◌, length}
use Rattle.session_answer.proofs.InitialGraphLemmas.{IsFed}
use Rattle.session_answer.proofs.initial_graph.read_initial_graph.Given as goal

abbrev pub invariant-loop : goal.invariant-loop
invariant-loop g l = record {
  fed : IsFed l.job l.limit l.left (g.R.Read.remaining l.initial.reader) (g.R.Read.remaining l.reader);
  often : l.counter + l.left ≤ l.limit;
  room : 0 < length l.buffer;
}
