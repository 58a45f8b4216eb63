-- What is marked is past the limit, and so is what lost its label.
use Rattle.std.proofs.Common.{◌∙◌, ◌+◌, ◌<◌, ◌≤◌, arith, inl, inr, length, refl, slice_index}
use Rattle.std.proofs.lemmas.List.{get_or_read}
use Rattle.std.specs.Prelude.{min}
use Rattle.route_walks.specs.declared.graph.TheConstants.{INF}
use Rattle.route_walks.specs.Operators.{seeds_from}
use Rattle.near_labels.specs.Noted.{rest_of}
use Rattle.near_labels.proofs.Meeting.{dropped-target, dropped-toward}
use Rattle.near_labels.proofs.Noting.{source-label}
use Rattle.near_labels.proofs.both_ends.way_seen.Goals as goal

pub returns-then-drop_past-clause-start : goal.returns-then-drop_past-clause-start
returns-then-drop_past-clause-start c =
    let forward = c.args.forward.now in
    elim (c.drop_past.ensures.dropped c.args.source) [
      | inl same ↦
          same
          ∙ source-label c.args.csr.now c.args.source (rest_of forward.labels.items forward.marks.items) c.requires.pause
      | inr gone ↦ absurd (gone.2 refl)
    ]

pub returns-then-drop_past-clause-least : goal.returns-then-drop_past-clause-least
returns-then-drop_past-clause-least c =
    let graph = c.args.csr.now in
    let forward = c.args.forward.now in
    let labels = forward.labels.items in
    let side = c.args.side.now in
    let limit = c.min-limit.result in
    let seeds = seeds_from c.args.source in
    let least =
    c.pauses_are_least_toward.ensures limit graph seeds c.args.target (rest_of labels forward.marks.items)
    c.n.ensures.in_rows c.requires.pause
    (λ v below marked.
    c.requires.told limit v (slice_index labels v) below
    (c.drop_past.ensures.far c.if-drop_past.true v (omega (arith, below, c.requires.pause.going.marks)) marked)) in
    dropped-toward limit side.low graph seeds c.args.target c.args.source side.labels.now labels
    c.drop_past.new.self.labels.items least c.requires.told c.drop_past.ensures.dropped

pub returns-then-drop_past-clause-past : goal.returns-then-drop_past-clause-past
returns-then-drop_past-clause-past c =
    let graph = c.args.csr.now in
    let labels = c.args.forward.now.labels.items in
    let side = c.args.side.now in
    let limit = c.min-limit.result in
    let below : c.args.target < length labels = omega (arith, c.requires.target, c.requires.pause.going.labels) in
    let read = get_or_read labels c.args.target c.index.result.now below c.index.ensures 0 in
    let above : min (slice_index labels c.args.target + 1) INF ≤ limit =
    omega (arith, c.min-limit.ensures, c.saturating_add.ensures, read) in
    let same =
    dropped-target limit side.low graph c.args.target c.args.source side.labels.now labels
    c.drop_past.new.self.labels.items c.requires.target (c.requires.pause.capped c.args.target c.requires.target) above
    c.requires.told c.drop_past.ensures.dropped in
    omega (arith, same, above)
