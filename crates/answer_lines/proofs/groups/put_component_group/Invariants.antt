use Rattle.std.proofs.Common.{◌≡◌, ◌+◌, ◌*◌, ◌≤◌, length, drop}
use Rattle.answer_lines.specs.Lines.{component_lines}
use Rattle.answer_lines.specs.declared.groups.TheConstants.{LINE_BYTES, GROUP_BYTES}
use Rattle.answer_lines.proofs.groups.put_component_group.Given as goal

abbrev pub invariant-loop-i : goal.invariant-loop-i
invariant-loop-i l = record {
  made : drop l.start l.lines ≡ component_lines (l.first + l.i) (drop l.i l.labels);
  place : l.start ≤ GROUP_BYTES;
  room : GROUP_BYTES + LINE_BYTES * l.i ≤ l.start + LINE_BYTES * length l.labels;
  size : length l.lines ≡ GROUP_BYTES;
}
