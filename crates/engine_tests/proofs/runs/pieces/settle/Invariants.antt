use Rattle.std.proofs.Common.{IfSome}
use Rattle.label_words.specs.Paused.{IsPause}
use Rattle.engine_tests.proofs.runs.pieces.settle.Given as goal

abbrev pub invariant-loop : goal.invariant-loop
invariant-loop g l = IfSome l.rest (λ rest. IsPause l.csr l.seeds rest)
