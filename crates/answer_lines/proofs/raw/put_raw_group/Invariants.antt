use Rattle.std.proofs.Common.{◌≡◌, ◌*◌, length, take}
use Rattle.answer_lines.specs.Raw.{raw_labels}
use Rattle.answer_lines.specs.declared.raw.TheConstants.{RAW_GROUP_BYTES, LABEL_BYTES}
use Rattle.answer_lines.proofs.raw.put_raw_group.Given as goal

abbrev pub invariant-loop-label : goal.invariant-loop-label
invariant-loop-label l = record {
  made : take l.end l.bytes ≡ raw_labels (take l.label-index l.labels);
  place : l.end ≡ LABEL_BYTES * l.label-index;
  size : length l.bytes ≡ RAW_GROUP_BYTES;
}
