use Rattle.label_words.proofs.Ends.{unmarked_least}
use Rattle.label_words.proofs.laws.unmarked_pauses_are_least.Goals as goal

pub returns : goal.returns
returns c = unmarked_least
