use Rattle.std.proofs.Common.{◌≡◌, ◌+◌, ◌-◌, ◌==◌, ◌<◌, ℕ, ◌∷◌, max, get_or, drop, length, refl, sym, ap, ap₂, ◌∙◌, arith}
use Rattle.std.proofs.Common.{if◌then◌else◌}
use Rattle.route_walks.specs.declared.graph.TheConstants.{INF}
use Rattle.std.proofs.lemmas.List.{drop_all, drop_more}
use Rattle.answer_lines.specs.Totals.{cost_or_0, farthest}
use Rattle.answer_lines.proofs.Adding.{cost-below, counts-one, farthest-next}
use Rattle.answer_lines.proofs.totals.Totals.of.Goals as goal

pub loop-v-init : goal.loop-v-init
loop-v-init c =
    let labels = c.args.labels.now in
    rw (drop_all (length labels) labels (omega arith))
    (record {
      reached = refl;
      sum = refl;
      greatest = refl;
      farthest = omega arith;
      few = omega arith;
      small = omega arith;
      low = omega arith;
    })

pub loop-v-preserved : goal.loop-v-preserved
loop-v-preserved c =
    let l = c.loop-v in
    let labels = c.args.labels.now in
    let v = l.v - 1 in
    let label = get_or labels v 0 in
    let next : v + 1 ≡ l.v = omega arith in
    let here : drop v labels ≡ label ∷ drop l.v labels =
    drop_more labels v 0 (omega arith) ∙ ap (λ (k : ℕ). label ∷ drop k labels) next in
    let fits = c.type_inv.labels v in
    let cost : cost_or_0 label < INF = cost-below label (omega (arith, fits.fits)) in
    let with = c.with_label-totals.ensures in
    rw here
    (record {
      reached = with.reached ∙ ap (λ (n : ℕ). (if label == INF then 0 else 1) + n) l.invariant.reached;
      sum = with.sum ∙ ap (λ (n : ℕ). cost_or_0 label + n) l.invariant.sum;
      greatest = with.greatest ∙ ap (λ (n : ℕ). max (cost_or_0 label) n) l.invariant.greatest;
      farthest =
          with.farthest
          ∙ ap₂ (λ (most far : ℕ). if label == max (cost_or_0 label) most then v else far) l.invariant.greatest
          (l.invariant.farthest ∙ ap (λ (k : ℕ). k + farthest (drop l.v labels)) (sym next))
          ∙ sym (farthest-next v label (drop l.v labels));
      few = omega (arith, with.reached, counts-one label, l.invariant.few);
      small = omega (arith, with.sum, cost, l.invariant.small);
      low = omega (arith, with.greatest, cost, l.invariant.low);
    })
