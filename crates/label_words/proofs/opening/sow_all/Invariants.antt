use Rattle.std.specs.Prelude.{take}
use Rattle.label_words.specs.Sown.{IsSown}
use Rattle.label_words.proofs.opening.sow_all.Given as goal

abbrev pub invariant-loop-seed : goal.invariant-loop-seed
invariant-loop-seed l = IsSown l.n (take l.seed-index l.seeds) l.words
