use Rattle.std.proofs.Common.{arith}
use Rattle.std.specs.Prelude.{slice_index}
use Rattle.near_labels.specs.Meeting.{IsLeastMeeting}
use Rattle.near_labels.specs.Noted.{rest_of}
use Rattle.near_labels.proofs.climb.sum_above.Goals as goal

pub returns-then-sum-waits : goal.returns-then-sum-waits
returns-then-sum-waits c =
    let up = c.args.up.now in
    let forward = c.args.forward.now in
    let backward = c.args.backward.now in
    let sum = c.least_meeting-sum.result in
    let least : IsLeastMeeting up.n (slice_index forward.labels.items) (slice_index backward.labels.items) sum =
    rw (← c.requires.pause.going.labels, ← c.deref.ensures.value) c.least_meeting-sum.ensures in
    c.meeting_above_is_least.ensures up c.args.down.now c.args.source c.args.target c.lowest_marked.result
    c.lowest_marked-2.result sum (rest_of forward.labels.items forward.marks.items)
    (rest_of backward.labels.items backward.marks.items) c.n.ensures.in_rows c.n-2.ensures.in_rows c.requires.vertices
    c.requires.source c.requires.target c.requires.pause c.requires.pause_backward c.lowest_marked.ensures
    c.lowest_marked-2.ensures least (omega (arith, c.if-sum-waits.true, c.min-waits.ensures))
    (omega (arith, c.if-sum-waits.true, c.min-waits.ensures))
