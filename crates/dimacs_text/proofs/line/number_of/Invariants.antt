use Rattle.std.proofs.Common.{◌≡◌, drop, option_map}
use Rattle.dimacs_text.specs.Lines.{number}
use Rattle.dimacs_text.specs.reader.Pieces.{capped}
use Rattle.dimacs_text.proofs.LineLemmas.{worth}
use Rattle.dimacs_text.proofs.line.number_of.Given as goal

abbrev pub invariant-loop-byte : goal.invariant-loop-byte
invariant-loop-byte l = option_map capped (number l.field) ≡ worth l.value (drop l.byte-index l.field)
