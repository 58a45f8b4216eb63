use Rattle.std.specs.Prelude.{⊤}
use Rattle.label_words.proofs.words.Words.prefetch_labels.Given as goal

abbrev pub invariant-loop-target : goal.invariant-loop-target
invariant-loop-target l = ⊤
