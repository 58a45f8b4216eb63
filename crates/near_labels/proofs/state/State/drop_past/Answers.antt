-- Each turn looks at one more noted vertex, whose label is the old one or was past the limit when it was dropped.
use Rattle.std.proofs.Common.{◌≡◌, ℕ, ◌+◌, ◌<◌, ◌≤◌, min, true, arith, ap, length, subst, rules}
use Rattle.std.specs.Prelude.{All, slice_index}
use Rattle.std.proofs.lemmas.List.{get_or_read, take_all}
use Rattle.std.proofs.lemmas.List.Elements.{All-more}
use Rattle.relax_core.specs.State.{mark_of}
use Rattle.near_labels.proofs.Noting.{noted-marked}
use Rattle.near_labels.proofs.Meeting.{dropped-far, dropped-more}
use Rattle.near_labels.proofs.state.State.drop_past.Goals as goal

pub loop-place-preserved : goal.loop-place-preserved
loop-place-preserved c =
    let labels = c.args.self.now.labels.items in
    let marks = c.args.self.now.marks.items in
    let noted = c.args.self.now.noted.items in
    let side = c.args.side.now in
    let inv = c.loop-place.invariant in
    let k = c.loop-place.place in
    let here : k < length noted = search rules in
    let v = c.index-v.result.now in
    let now = c.loop-place.self.noted.items in
    let read = get_or_read now k v (omega (arith, here, ap length inv.list)) c.index-v.ensures 0 in
    let same : slice_index noted k ≡ v = cc (read, inv.list) in
    let far : mark_of marks v ≡ true → c.args.limit ≤ slice_index labels v + min (slice_index side.labels.now v) side.low =
    λ marked. dropped-far c.args.but c.args.limit side.low side.labels.now labels c.loop-place.self.labels.items inv.dropped v
    (c.drop_if_past.ensures.far c.if-not-drop_if_past.false (rw inv.marks marked)) in
    record {
      noted = search rules;
      list = search rules;
      marks = search rules;
      count = search rules;
      dropped = dropped-more c.args.but c.args.limit side.low side.labels.now labels c.loop-place.self.labels.items _ inv.dropped
          c.drop_if_past.ensures.labels;
      far = All-more
          (λ (w : ℕ). mark_of marks w ≡ true → c.args.limit ≤ slice_index labels w + min (slice_index side.labels.now w) side.low) noted k 0
          here inv.far (rw same far);
    }

pub returns-clause-far : goal.returns-clause-far
returns-clause-far c =
    let labels = c.args.self.now.labels.items in
    let marks = c.args.self.now.marks.items in
    let noted = c.args.self.now.noted.items in
    let other = c.args.side.now.labels.now in
    let IsFar : ℕ → Type 0 = λ w. c.args.limit ≤ slice_index labels w + min (slice_index other w) c.args.side.now.low in
    λ _.
    noted-marked IsFar labels marks noted c.requires
    (subst (All (λ (w : ℕ). mark_of marks w ≡ true → IsFar w)) (take_all c.loop-place.place noted (search rules)) c.loop-place.invariant.far)
