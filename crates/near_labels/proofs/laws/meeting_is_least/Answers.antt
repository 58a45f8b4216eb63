use Rattle.near_labels.proofs.Meeting as meeting
use Rattle.near_labels.proofs.laws.meeting_is_least.Goals as goal

pub returns : goal.returns
returns c = meeting.meeting_is_least
