-- One more of those that are noted is listed, or not.
use Rattle.std.proofs.Common.{◌<◌, length, arith, inl, inr}
use Rattle.std.specs.Prelude.{slice_index}
use Rattle.std.proofs.lemmas.List.Elements.{All-get_or}
use Rattle.near_labels.proofs.Bounded.{listing-put, listing-skip}
use Rattle.near_labels.proofs.listing.listed.Goals as goal
use Rattle.near_labels.proofs.listing.listed.Goals.{then-from-next+then-label-bound+in-Ok, else-from-next}
use Rattle.near_labels.proofs.listing.listed.Goals.{else-from-next-via-then-from-next+else-label-bound}
use Rattle.near_labels.proofs.listing.listed.Goals.{else-from-next-via-else-from-next}

pub loop-v-preserved : goal.loop-v-preserved
loop-v-preserved c =
    let labels = c.args.labels.now in
    let noted = c.args.noted.now in
    let i = c.loop-v.v-index in
    let found = c.loop-v.found.items in
    let next = c.loop-v.next in
    let here : i < length noted = c.loop-v-test.true in
    let inside : slice_index noted i < length labels = All-get_or (λ w. w < length labels) noted i 0 here c.requires.within in
    elim c.if-from-next.branch [
      | then-from-next+then-label-bound+in-Ok w ↦
          rw (w.found-is, w.in-Ok.ensures.items, w.next-is, w.from-next.ensures)
          (listing-put labels noted c.args.bound i found next c.loop-v.invariant
          (omega (arith, w.if-from-next.true, c.from.ensures)) inside w.if-label-bound.true)
      | else-from-next w ↦
          rw (w.found-is, w.next-is)
          (listing-skip labels noted c.args.bound i found next c.loop-v.invariant c.requires.rising here
          (elim w.else-from-next.branch [
            | else-from-next-via-then-from-next+else-label-bound w' ↦ inr w'.if-label-bound.false
            | else-from-next-via-else-from-next w' ↦ inl (omega (arith, w'.if-from-next.false, c.from.ensures))
          ]))
    ]
