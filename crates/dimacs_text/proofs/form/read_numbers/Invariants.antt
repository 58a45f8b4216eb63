use Rattle.std.proofs.Common.{◌≡◌, length, take, drop}
use Rattle.dimacs_text.specs.Lines.{fields}
use Rattle.dimacs_text.specs.Forms.{numbers_within}
use Rattle.dimacs_text.proofs.FormLemmas.{said_after}
use Rattle.dimacs_text.proofs.form.read_numbers.Given as goal

abbrev pub invariant-loop-i : goal.invariant-loop-i
invariant-loop-i g l = record {
  said : numbers_within l.limits (fields l.args)
      ≡ said_after l.wrong (take l.i l.numbers) (drop l.i l.limits) (fields l.rest);
  count : length l.numbers ≡ g.row.N;
}
