use Rattle.std.proofs.Common.{◌≡◌, ◌+◌, ◌≤◌, ◌++◌, length}
use Rattle.answer_lines.specs.Lines.{label_lines}
use Rattle.answer_lines.specs.declared.groups.TheConstants.{GROUP_BYTES}
use Rattle.answer_lines.proofs.groups.put_labels.Given as goal

abbrev pub invariant-loop-rest : goal.invariant-loop-rest
invariant-loop-rest l = record {
  count : l.v + length l.rest ≡ l.first + length l.labels;
  whole : l.out.items ++ label_lines l.v l.rest ≡ l.fn.out.items ++ label_lines l.first l.labels;
  longer : length l.fn.out.items ≤ length l.out.items;
  before : l.before ≡ length l.fn.out.items;
  room : length l.lines ≡ GROUP_BYTES;
}

abbrev pub decreases-loop-rest : goal.decreases-loop-rest
decreases-loop-rest l = length l.rest
