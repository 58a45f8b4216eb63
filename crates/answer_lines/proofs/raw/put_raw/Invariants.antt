use Rattle.std.proofs.Common.{◌≡◌, ◌≤◌, ◌++◌, length}
use Rattle.answer_lines.specs.Raw.{raw_labels}
use Rattle.answer_lines.specs.declared.raw.TheConstants.{RAW_GROUP_BYTES}
use Rattle.answer_lines.proofs.raw.put_raw.Given as goal

abbrev pub invariant-loop-rest : goal.invariant-loop-rest
invariant-loop-rest l = record {
  whole : l.out.items ++ raw_labels l.rest ≡ l.fn.out.items ++ raw_labels l.labels;
  longer : length l.fn.out.items ≤ length l.out.items;
  before : l.before ≡ length l.fn.out.items;
  room : length l.bytes ≡ RAW_GROUP_BYTES;
}

abbrev pub decreases-loop-rest : goal.decreases-loop-rest
decreases-loop-rest l = length l.rest
