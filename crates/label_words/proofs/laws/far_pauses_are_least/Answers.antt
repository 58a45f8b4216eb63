use Rattle.label_words.proofs.Limits as limits
use Rattle.label_words.proofs.laws.far_pauses_are_least.Goals as goal

pub returns : goal.returns
returns c = limits.far_pauses_are_least
