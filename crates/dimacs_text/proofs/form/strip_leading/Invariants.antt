use Rattle.std.proofs.Common.{◌≡◌, drop}
use Rattle.dimacs_text.specs.Lines.{fields}
use Rattle.dimacs_text.specs.Forms.{begins_with}
use Rattle.dimacs_text.specs.reader.Entries.{fields_of}
use Rattle.dimacs_text.proofs.form.strip_leading.Given as goal

abbrev pub invariant-loop-expected : goal.invariant-loop-expected
invariant-loop-expected l = record {
  begins : begins_with (fields_of l.leading) (fields l.line)
      ≡ begins_with (fields_of (drop l.expected-index l.leading)) (fields l.rest);
  rest : fields l.rest ≡ drop l.expected-index (fields l.line);
}
