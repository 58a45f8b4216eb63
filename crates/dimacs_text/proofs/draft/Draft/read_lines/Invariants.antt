use Rattle.std.proofs.Common.{◌-◌, ◌+◌, ◌≤◌, ◌<◌, ◌^◌, length, drop}
use Rattle.dimacs_text.specs.reader.Drafts.{ReadsTo, progress_of}
use Rattle.dimacs_text.proofs.draft.Draft.read_lines.Given as goal

abbrev pub invariant-loop-at : goal.invariant-loop-at
invariant-loop-at l = record {
  inside : l.at ≤ length l.bytes;
  reads : l.first + length l.bytes < 2 ^ 64
      → (l.line ≤ l.first + l.at)
      × ReadsTo (progress_of l.fn.self) l.first l.bytes (progress_of l.self) l.line (drop l.at l.bytes);
}

abbrev pub decreases-loop-at : goal.decreases-loop-at
decreases-loop-at l = length l.bytes - l.at
