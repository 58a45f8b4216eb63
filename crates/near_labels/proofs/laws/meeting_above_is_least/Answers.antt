use Rattle.near_labels.proofs.UpDown as up_down
use Rattle.near_labels.proofs.laws.meeting_above_is_least.Goals as goal

pub returns : goal.returns
returns c = up_down.meeting_above_is_least c.pauses_are_least_up_to.ensures
