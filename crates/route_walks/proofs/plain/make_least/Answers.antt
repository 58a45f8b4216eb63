use Rattle.std.proofs.Common.{◌≡◌, ℕ, ◌+◌, ◌<◌, length, get_or, slice_index, subst, arith}
use Rattle.std.specs.List.{All}
use Rattle.std.proofs.lemmas.List.{get_or-set_same, take_all}
use Rattle.std.proofs.lemmas.List.Elements.{All-more, Contains-get_or}
use Rattle.std.proofs.lemmas.List.Sums.{sum_by-set}
use Rattle.route_walks.specs.declared.graph.ArcRec.{ArcRec}
use Rattle.route_walks.specs.declared.graph.Seed.{Seed}
use Rattle.route_walks.specs.Walk.{IsAttained}
use Rattle.route_walks.specs.Label.{IsRelaxed}
use Rattle.route_walks.proofs.Facts.{attained-start, attained-along, settled_and_sound_are_least}
use Rattle.route_walks.proofs.Lowering.{set-lowered, meet-more}
use Rattle.route_walks.proofs.plain.make_least.Goals as goal
use Rattle.route_walks.proofs.plain.make_least.Goals.{then-seed-labels, else-seed-labels}
use Rattle.route_walks.proofs.plain.make_least.Goals.{then-offered-labels, else-offered-labels}

pub loop-seed-preserved : goal.loop-seed-preserved
loop-seed-preserved c =
    let n = length c.args.labels.now in
    let arcs = c.args.arcs.now in
    let seeds = c.args.seeds.now in
    let labels = c.loop-seed.labels in
    let i = c.loop-seed.seed-index in
    let here = c.loop-seed-test.true in
    let none : Seed = record { vertex = 0; start = 0 } in
    let seed = get_or seeds i none in
    let below = c.requires.seeds i none here in
    let start = attained-start arcs seeds seed (Contains-get_or seeds i none here) in
    let more = meet-more n arcs seeds i none in
    elim c.if-seed-labels.branch [
      | then-seed-labels w ↦
          let inside : seed.vertex < length labels = omega (arith, below, c.loop-seed.invariant.count) in
          rw w.labels-is
          (more _ here
          (set-lowered n arcs seeds _ labels seed.vertex seed.start c.loop-seed.invariant below
          w.if-seed-labels.true start) (omega (arith, get_or-set_same labels seed.vertex seed.start 0 inside)))
      | else-seed-labels w ↦ rw w.labels-is (more labels here c.loop-seed.invariant w.if-seed-labels.false)
    ]

pub loop-arc-preserved : goal.loop-arc-preserved
loop-arc-preserved c =
    let n = length c.args.labels.now in
    let arcs = c.args.arcs.now in
    let seeds = c.args.seeds.now in
    let labels = c.loop-arc.labels in
    let round = c.loop-arc.invariant in
    let i = c.loop-arc.arc-index in
    let here = c.loop-arc-test.true in
    let none : ArcRec = record { tail = 0; head = 0; weight = 0 } in
    let arc = get_or arcs i none in
    let ends = c.requires.graph i none here in
    let x = c.offer-offered.result in
    elim c.if-offered-labels.branch [
      | then-offered-labels w ↦
          let inside : arc.head < length labels = omega (arith, ends.1, round.lowered.count) in
          let less = w.if-offered-labels.true in
          let sum : get_or labels arc.tail 0 + arc.weight ≡ x =
          omega (arith, c.offer-offered.ensures, less, round.lowered.capped arc.head ends.1) in
          let attained =
          subst (IsAttained arcs seeds arc.head) sum
          (attained-along arcs seeds arc (get_or labels arc.tail 0) (Contains-get_or arcs i none here)
          (round.lowered.sound arc.tail ends.0 (omega (arith, sum, less, round.lowered.capped arc.head ends.1)))) in
          rw (w.labels-is, w.fell-is)
          (record {
            lowered = set-lowered n arcs seeds seeds labels arc.head x round.lowered ends.1 less attained;
            relaxed = λ never. cc;
            less =
                omega (arith, sum_by-set (λ (y : ℕ). y) labels arc.head x 0 inside, round.less, less);
          })
      | else-offered-labels w ↦
          rw (w.labels-is, w.fell-is)
          (record {
            lowered = round.lowered;
            relaxed = λ same.
                All-more (IsRelaxed (slice_index labels)) arcs i none here (round.relaxed same)
                (omega (arith, w.if-offered-labels.false, c.offer-offered.ensures));
            less = round.less;
          })
    ]

pub loop-fell-preserved : goal.loop-fell-preserved
loop-fell-preserved c = (
  c.loop-arc.invariant.lowered,
  λ same.
      subst (All (IsRelaxed (slice_index c.loop-arc.labels)))
      (take_all c.loop-arc.arc-index c.args.arcs.now c.loop-arc-test.false) (c.loop-arc.invariant.relaxed same),
)

pub returns : goal.returns
returns c =
    settled_and_sound_are_least (length c.args.labels.now) c.args.arcs.now c.args.seeds.now
    (slice_index c.loop-fell.labels) c.loop-fell.invariant.0.capped (record {
      met = c.loop-fell.invariant.0.met;
      relaxed = c.loop-fell.invariant.1 c.loop-fell-test.false;
    }) c.loop-fell.invariant.0.sound
