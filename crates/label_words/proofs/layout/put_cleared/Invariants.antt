use Rattle.std.proofs.Common.{◌≤◌}
use Rattle.label_words.specs.Layout.{word_count}
use Rattle.label_words.proofs.Sowing.{AreCleared}
use Rattle.label_words.proofs.layout.put_cleared.Given as goal

abbrev pub invariant-loop : goal.invariant-loop
invariant-loop l = AreCleared l.words.items l.counter l.counter × (word_count l.n ≤ l.words.cap)
