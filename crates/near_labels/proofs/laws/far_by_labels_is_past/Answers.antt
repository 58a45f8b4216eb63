use Rattle.near_labels.proofs.Meeting as meeting
use Rattle.near_labels.proofs.laws.far_by_labels_is_past.Goals as goal

pub returns : goal.returns
returns c = meeting.far_by_labels_is_past
