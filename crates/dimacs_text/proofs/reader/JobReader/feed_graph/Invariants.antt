use Rattle.std.proofs.Common.{◌^◌, ◌+◌, ◌<◌, ◌≤◌, ◌++◌, ◌-◌, List, ℕ, length, take}
use Rattle.dimacs_text.specs.GraphTexts.{HasNoGraphInside}
use Rattle.dimacs_text.specs.Lines.{lines}
use Rattle.dimacs_text.specs.Reading.{HasRead, Reads}
use Rattle.dimacs_text.proofs.reader.JobReader.feed_graph.Given as goal

abbrev pub invariant-loop-at : goal.invariant-loop-at
invariant-loop-at l = record {
  inside : l.at ≤ length l.bytes;
  reads : Reads l.fn.self l.self (take l.at l.bytes);
  short : (text more : List ℕ) → HasRead l.self text → 0 < l.missing → 0 < length more → length (lines more) ≤ l.missing
      → HasNoGraphInside (text ++ more);
  none : (text : List ℕ) → HasRead l.fn.self text → length text + length l.bytes ≤ 2 ^ 36 → HasNoGraphInside text
      → HasNoGraphInside (text ++ take l.at l.bytes);
}

abbrev pub decreases-loop-at : goal.decreases-loop-at
decreases-loop-at l = length l.bytes - l.at
