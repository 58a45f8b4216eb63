use Rattle.std.proofs.Common.{◌≡◌, ◌+◌, ◌∙◌, ℕ, [], ◌∷◌, ap, arith, inl, inr, length}
use Rattle.std.proofs.lemmas.Bool.{cases_lt}
use Rattle.std.proofs.lemmas.List.{get_or_append_left, get_or_push, length_push}
use Rattle.least_costs.specs.Pairs.{pair_at}
use Rattle.job_answer.proofs.output.walked_pairs.targets_of.Goals as goal

pub loop-at-preserved : goal.loop-at-preserved
loop-at-preserved c =
    let pairs = c.args.pairs.now in
    let targets = c.loop-at.targets.items in
    let i = c.loop-at.invariant in
    let t = (pair_at pairs c.loop-at.at).1 in
    rw c.in_ok-push.ensures.items
    (record {
      count = omega (arith, length_push targets t, i.count);
      each = λ k below.
          elim (cases_lt k (length targets)) [
            | inl here ↦ get_or_append_left targets (t ∷ []) 0 k here ∙ i.each k here
            | inr past ↦
                let last : length targets ≡ k = omega (arith, below, length_push targets t, past) in
                let place : c.loop-at.at ≡ c.args.solve.first + k = omega (arith, last, i.count) in
                get_or_push targets t 0 k last ∙ ap (λ (j : ℕ). (pair_at pairs j).1) place
          ];
    })
