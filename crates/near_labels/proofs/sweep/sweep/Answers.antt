use Rattle.std.proofs.Common.{◌<◌, ◌∙◌, ℕ, length, refl, arith}
use Rattle.std.specs.Prelude.{slice_index}
use Rattle.std.proofs.lemmas.List.Elements.{All-get_or}
use Rattle.near_labels.specs.Sweep.{AreSwept}
use Rattle.near_labels.proofs.Sweeping.{sweeping-begin, sweeping-on, swept-least, swept-more}
use Rattle.near_labels.proofs.sweep.sweep.Goals as goal

pub loop-v-init : goal.loop-v-init
loop-v-init c = record {
  count = refl;
  noted = c.requires.noted;
  sweeping =
      sweeping-begin c.args.limit c.args.down.now.n c.args.up.now.arcs c.args.down.now.arcs c.args.source
      c.args.state.now.labels.items c.requires.least c.requires.limit;
  swept = λ k lt. absurd (omega (arith, lt));
}

pub loop-v-preserved : goal.loop-v-preserved
loop-v-preserved c =
    let ups = c.args.up.now.arcs in
    let down = c.args.down.now in
    let order = c.args.order.now in
    let k = c.loop-v.v-index in
    let v = slice_index order k in
    let old = c.loop-v.state.labels.items in
    let new = c.lower_along.new.state.labels.items in
    let below : v < down.n = All-get_or (λ (w : ℕ). w < down.n) order k 0 c.loop-v-test.true c.requires.order in
    let lowered = c.lower_along.ensures.lowered c.if-not-lower_along.false in
    let before = c.loop-v.invariant in
    record {
      count = c.lower_along.ensures.count ∙ before.count;
      noted = c.lower_along.ensures.noted;
      sweeping =
          sweeping-on down.n ups down.arcs c.args.source v old new c.n-2.ensures.in_rows.ends below before.sweeping lowered;
      swept =
          swept-more down.n ups down.arcs c.args.source v k order old new below c.loop-v-test.true refl c.requires.upward
          before.sweeping before.swept lowered;
    }

pub returns-clause-least : goal.returns-clause-least
returns-clause-least c =
    let ups = c.args.up.now.arcs in
    let down = c.args.down.now in
    let order = c.args.order.now in
    let label = slice_index c.loop-v.state.labels.items in
    let swept : AreSwept ups down.arcs c.args.source order (length order) label =
    λ k lt. c.loop-v.invariant.swept k (omega (arith, lt, c.loop-v-test.false)) in
    λ _ v below within.
    swept-least down.n ups down.arcs c.args.source order label c.loop-v.invariant.sweeping swept v below within
