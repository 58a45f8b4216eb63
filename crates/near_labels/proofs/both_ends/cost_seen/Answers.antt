use Rattle.std.proofs.Common.{arith}
use Rattle.std.specs.Prelude.{slice_index}
use Rattle.near_labels.specs.Meeting.{IsLeastMeeting}
use Rattle.near_labels.specs.Noted.{rest_of}
use Rattle.near_labels.proofs.both_ends.cost_seen.Goals as goal

pub returns-then-cost-waits : goal.returns-then-cost-waits
returns-then-cost-waits c =
    let graph = c.args.ways.now.csr.now in
    let forward = c.args.forward.now in
    let backward = c.args.backward.now in
    let cost = c.least_meeting-cost.result in
    let least : IsLeastMeeting graph.n (slice_index forward.labels.items) (slice_index backward.labels.items) cost =
    rw (← c.requires.pause.going.labels, ← c.deref.ensures.value) c.least_meeting-cost.ensures in
    c.meeting_is_least.ensures graph c.args.ways.now.reversed.now c.args.source c.args.target c.lowest_marked.result c.lowest_marked-2.result c.args.ways.now.least_weight cost
    (rest_of forward.labels.items forward.marks.items) (rest_of backward.labels.items backward.marks.items) c.n.ensures.in_rows
    c.n-2.ensures.in_rows c.requires.ways.turned c.requires.ways.least c.requires.source c.requires.target c.requires.pause c.requires.pause_backward
    c.lowest_marked.ensures c.lowest_marked-2.ensures least (omega (arith, c.if-cost-waits.true, c.saturating_add-waits.ensures))
