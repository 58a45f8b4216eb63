use Rattle.std.specs.Slice.Iter.{chunks_rest}
use Rattle.answer_lines.specs.Raw.{raw_labels, raw_text}
use Rattle.job_answer.proofs.Sinks.{Lacks}
use Rattle.job_answer.proofs.output.lines.put_raw_block.Given as goal

abbrev pub invariant-loop-group : goal.invariant-loop-group
invariant-loop-group g l = record {
  can_next : (goal.iterator-loop-group g).can_next l.group-iterator;
  is_finite : (goal.iterator-loop-group g).is_finite l.group-iterator;
  put : Lacks g.W.Write.contents (raw_labels (chunks_rest l.group-iterator)) (raw_text l.source l.labels) l.fn.sink l.sink;
}
