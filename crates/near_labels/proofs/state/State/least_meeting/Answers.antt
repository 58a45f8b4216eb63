use Rattle.std.proofs.Common.{◌≡◌, ◌<◌, length, subst, rules, get_or, arith}
use Rattle.std.specs.Prelude.{slice_index}
use Rattle.std.proofs.lemmas.List.{get_or_read, take_all}
use Rattle.std.proofs.lemmas.List.Elements.{All-get_or}
use Rattle.near_labels.proofs.Meeting.{IsLeastSeen, seen-all, seen-more, seen-none}
use Rattle.near_labels.proofs.state.State.least_meeting.Goals as goal

pub loop-v-init : goal.loop-v-init
loop-v-init c = seen-none _ _ _

pub returns : goal.returns
returns c =
    let labels = c.args.self.now.labels.items in
    let noted = c.args.self.now.noted.items in
    let backward = slice_index c.args.other.now in
    let least = c.loop-v.least in
    seen-all labels c.args.self.now.marks.items noted backward least c.requires.noted
    (subst (λ seen. IsLeastSeen (length labels) (slice_index labels) backward seen least)
    (take_all c.loop-v.v-index noted (search rules)) c.loop-v.invariant)

pub loop-v-preserved : goal.loop-v-preserved
loop-v-preserved c =
    let labels = c.args.self.now.labels.items in
    let noted = c.args.self.now.noted.items in
    let i = c.loop-v.v-index in
    let v = get_or noted i 0 in
    let same = c.deref-v-items.ensures.value in
    let here : i < length noted = search rules in
    let below : v < length labels = All-get_or (λ w. w < length labels) noted i 0 here c.requires.noted.within in
    let read : c.index.result.now ≡ get_or labels v 0 =
    get_or_read labels v c.index.result.now below (rw same at c.index.ensures) 0 in
    seen-more (length labels) (slice_index labels) (slice_index c.args.other.now) noted i c.loop-v.least c.min-least.result here
    below c.loop-v.invariant (omega (arith, read, rw same at c.saturating_add.ensures, c.min-least.ensures))
