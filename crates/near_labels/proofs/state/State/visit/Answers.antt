-- Each turn relaxes one more arc of the row.
use Rattle.std.proofs.Common.{◌≡◌, ◌∙◌, ◌<◌, length, get_or, subst, ap, arith, rules, length-set}
use Rattle.std.specs.Prelude.{All, Contains, slice_index}
use Rattle.std.proofs.lemmas.List.{get_or_read, take_all}
use Rattle.route_walks.specs.Label.{IsRelaxed}
use Rattle.route_walks.specs.Operators.{seeds_from}
use Rattle.csr_graph.specs.declared.target.Target.{Target}
use Rattle.csr_graph.specs.Graph.{arc_to}
use Rattle.csr_graph.proofs.Facts.{row_arcs, no_target}
use Rattle.near_labels.proofs.Lowering.{visit-lower, visit-pass, pause-unmark}
use Rattle.near_labels.proofs.state.State.visit.Goals as goal
use Rattle.near_labels.proofs.state.State.visit.Goals.{else-label-index-via-then-label-index+else-not-lower}
use Rattle.near_labels.proofs.state.State.visit.Goals.{else-label-index-via-else-label-index}

pub index-requires : goal.index-requires
index-requires c =
    let row = c.row-row.ensures in
    let at = row_arcs c.args.csr.now row.in_rows c.args.u _ row.targets c.loop-head.head-index no_target (omega arith) in
    let below : (get_or c.row-row.result.now c.loop-head.head-index no_target).head < length c.loop-head.self.labels.items =
    omega (arith, at.1, c.loop-head.invariant.visiting.pause.going.labels) in
    search rules

pub lower-requires-clause-vertex : goal.lower-requires-clause-vertex
lower-requires-clause-vertex c =
    let row = c.row-row.ensures in
    let at = row_arcs c.args.csr.now row.in_rows c.args.u _ row.targets c.loop-head.head-index no_target (omega arith) in
    omega (arith, at.1, c.loop-head.invariant.visiting.pause.going.labels)

pub loop-head-preserved : goal.loop-head-preserved
loop-head-preserved c =
    let graph = c.args.csr.now in
    let seeds = seeds_from c.args.source in
    let row = c.row-row.result.now in
    let rows = c.row-row.ensures.in_rows in
    let u = c.args.u in
    let d = c.index-d.result.now in
    let k = c.loop-head.head-index in
    let labels = c.loop-head.self.labels.items in
    let marks = c.loop-head.self.marks.items in
    let target : Target = get_or row k no_target in
    let here : k < length row = omega arith in
    let at : Contains graph.arcs (arc_to u target) × (target.head < graph.n) =
    row_arcs graph rows u row c.row-row.ensures.targets k no_target here in
    let inv = c.loop-head.invariant in
    let below : target.head < length labels = omega (arith, at.1, inv.visiting.pause.going.labels) in
    let read : c.index.result.now ≡ slice_index labels target.head =
    get_or_read labels target.head c.index.result.now below c.index.ensures 0 in
    elim c.else-label-index.branch [
      | else-label-index-via-then-label-index+else-not-lower w ↦
          let fell = w.lower.ensures.labels w.if-not-lower.false in
          let marked = w.lower.ensures.marks w.if-not-lower.false in
          rw w.self-is (record {
            visiting =
                rw (fell, marked)
                (visit-lower graph seeds labels marks u d c.offer-label.result row k no_target inv.visiting here
                c.requires.vertex at c.offer-label.ensures (omega (arith, w.if-label-index.true, read)));
            noted = w.lower.ensures.noted;
            count = ap length fell ∙ length-set labels target.head c.offer-label.result ∙ inv.count;
          })
      | else-label-index-via-else-label-index w ↦
          rw w.self-is (record {
            visiting =
                visit-pass graph seeds labels marks u d c.offer-label.result row k no_target inv.visiting here
                c.offer-label.ensures (omega (arith, w.if-label-index.false, read));
            noted = inv.noted;
            count = inv.count;
          })
    ]

pub returns-clause-pause : goal.returns-clause-pause
returns-clause-pause c =
    let graph = c.args.csr.now in
    let labels = c.loop-head.self.labels.items in
    let row = c.row-row.result.now in
    let inv = c.loop-head.invariant.visiting in
    let relaxed : All (λ target. IsRelaxed (slice_index labels) (arc_to c.args.u target)) row =
    subst (All (λ (target : Target). IsRelaxed (slice_index labels) (arc_to c.args.u target)))
    (take_all c.loop-head.head-index row c.loop-head-test.false) inv.relaxed in
    λ _.
    pause-unmark graph (seeds_from c.args.source) labels c.loop-head.self.marks.items c.args.u inv.pause
    (rw c.row-row.ensures.targets at relaxed)
