use Rattle.label_words.proofs.Ends.{lawful_hold_a_core}
use Rattle.label_words.proofs.laws.lawful_words_hold_a_core.Goals as goal

pub returns : goal.returns
returns c = lawful_hold_a_core
