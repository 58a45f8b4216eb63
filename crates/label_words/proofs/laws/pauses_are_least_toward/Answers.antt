use Rattle.label_words.proofs.Limits as limits
use Rattle.label_words.proofs.laws.pauses_are_least_toward.Goals as goal

pub returns : goal.returns
returns c = limits.pauses_are_least_toward
