use Rattle.std.proofs.Common.{◌++◌, inl}
use Rattle.session_answer.proofs.initial_graph.stopped_graph.Goals as goal

pub returns : goal.returns
returns c = record {
  says = λ text more r.
      c.fault_of.ensures (text ++ more) (c.in-Err.ensures.fault text more r (inl c.if-not-is_refused.ensures));
}
