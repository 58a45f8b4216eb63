use Rattle.std.proofs.Common.{take, length}
use Rattle.std.specs.Prelude.{slice_index}
use Rattle.near_labels.proofs.Meeting.{IsLeastSeen}
use Rattle.near_labels.proofs.state.State.least_meeting.Given as goal

abbrev pub invariant-loop-v : goal.invariant-loop-v
invariant-loop-v l =
    IsLeastSeen (length l.self.labels.items) (slice_index l.self.labels.items) (slice_index l.other)
    (take l.v-index l.self.noted.items) l.least
