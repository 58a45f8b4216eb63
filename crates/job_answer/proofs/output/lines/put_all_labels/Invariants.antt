use Rattle.std.proofs.Common.{◌≡◌, ◌+◌, length}
use Rattle.std.specs.Slice.Iter.{chunks_rest}
use Rattle.answer_lines.specs.Lines.{label_lines, distances_text}
use Rattle.job_answer.proofs.Sinks.{Lacks}
use Rattle.job_answer.proofs.output.lines.put_all_labels.Given as goal

abbrev pub invariant-loop-group : goal.invariant-loop-group
invariant-loop-group g l = record {
  can_next : (goal.iterator-loop-group g).can_next l.group-iterator;
  is_finite : (goal.iterator-loop-group g).is_finite l.group-iterator;
  count : l.v + length (chunks_rest l.group-iterator) ≡ length l.labels;
  put : Lacks g.W.Write.contents (label_lines l.v (chunks_rest l.group-iterator)) (distances_text l.source l.labels)
      l.fn.sink l.sink;
}
