use Rattle.std.proofs.Common.{◌≡◌, ◌+◌, ◌≤◌, ◌++◌, length, drop}
use Rattle.std.specs.Fmt.{decimal}
use Rattle.answer_lines.proofs.totals.put_sum.Given as goal

abbrev pub invariant-loop-left : goal.invariant-loop-left
invariant-loop-left l = record {
  place : l.at ≤ l.end;
  room : l.end ≤ length l.line;
  digits : l.at + length (decimal l.number) ≡ l.end + length (decimal l.left);
  put : decimal l.left ++ drop l.at l.line ≡ decimal l.number ++ drop l.end l.fn.line;
}

abbrev pub decreases-loop-left : goal.decreases-loop-left
decreases-loop-left l = l.left
