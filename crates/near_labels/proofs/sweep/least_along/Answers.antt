use Rattle.std.proofs.Common.{◌≡◌, ◌+◌, ◌≤◌, ◌⊎◌, ℕ, inl, inr, get_or, subst, arith}
use Rattle.std.specs.Prelude.{All, slice_index}
use Rattle.std.proofs.lemmas.Bool.{cases_lt}
use Rattle.std.proofs.lemmas.List.{take_all}
use Rattle.std.proofs.lemmas.List.Elements.{All-more, All-weaker, Contains-get_or}
use Rattle.csr_graph.specs.declared.target.Target.{Target}
use Rattle.csr_graph.proofs.Facts.{no_target}
use Rattle.near_labels.specs.Sweep.{IsOffered}
use Rattle.near_labels.proofs.sweep.least_along.Goals as goal

pub loop-head-preserved : goal.loop-head-preserved
loop-head-preserved c =
    let label = slice_index c.args.labels.now in
    let row = c.args.row.now in
    let k = c.loop-head.head-index in
    let target : Target = get_or row k no_target in
    let least = c.min-least.result in
    let before = c.loop-head.invariant in
    record {
      falls = omega (arith, c.min-least.ensures, before.falls);
      low =
          All-more (λ (t : Target). least ≤ label t.head + t.weight) row k no_target c.loop-head-test.true
          (All-weaker (λ (t : Target). c.loop-head.least ≤ label t.head + t.weight)
          (λ (t : Target). least ≤ label t.head + t.weight) (λ t is. omega (arith, is, c.min-least.ensures)) _ before.low)
          (omega (arith, c.min-least.ensures, c.offer.ensures));
      met =
          elim (cases_lt c.offer.result c.loop-head.least) [
            | inl lower ↦
                inr (record {
                  target = target;
                  within = Contains-get_or row k no_target c.loop-head-test.true;
                  sum = omega (arith, lower, c.min-least.ensures, c.offer.ensures, before.falls, c.requires.capped);
                })
            | inr kept ↦
                let same : c.loop-head.least ≡ least = omega (arith, kept, c.min-least.ensures) in
                subst (λ (d : ℕ). (d ≡ c.args.label) ⊎ IsOffered row label d) same before.met
          ];
    }

pub returns-clause-low : goal.returns-clause-low
returns-clause-low c =
    let label = slice_index c.args.labels.now in
    subst (All (λ (t : Target). c.loop-head.least ≤ label t.head + t.weight))
    (take_all c.loop-head.head-index c.args.row.now c.loop-head-test.false) c.loop-head.invariant.low
