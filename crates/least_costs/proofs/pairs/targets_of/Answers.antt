use Rattle.std.proofs.Common.{◌≡◌, ◌+◌, ◌<◌, ◌∙◌, ℕ, [], ◌∷◌, ap, arith, inl, inr, length}
use Rattle.std.proofs.lemmas.Bool.{cases_lt}
use Rattle.std.proofs.lemmas.List.{get_or_append_left, get_or_push, length_push}
use Rattle.std.proofs.lemmas.List.Elements.{All-append, All-cons, All-get_or, All-nil}
use Rattle.least_costs.specs.Pairs.{pair_at}
use Rattle.least_costs.proofs.Filling.{entry_of}
use Rattle.least_costs.proofs.pairs.targets_of.Goals as goal

pub loop-at-preserved : goal.loop-at-preserved
loop-at-preserved c =
    let asked = c.args.asked.now in
    let pairs = asked.pairs.now in
    let order = asked.order.now in
    let at = c.loop-at.at in
    let targets = c.loop-at.targets.items in
    let i = c.loop-at.invariant in
    let entry = entry_of pairs order at (omega (arith, c.loop-at-test.true, c.requires.run.within)) c.requires.asked.order in
    let pair = pair_at pairs (pair_at order at).1 in
    let within = All-get_or (λ p. (p.0 < asked.network.now.n) × (p.1 < asked.network.now.n)) pairs (pair_at order at).1
    (0, 0) entry.0 c.requires.asked.within in
    rw c.in_ok-push.ensures.items
    (record {
      count = omega (arith, length_push targets pair.1, i.count);
      each = λ k below.
          elim (cases_lt k (length targets)) [
            | inl here ↦ get_or_append_left targets (pair.1 ∷ []) 0 k here ∙ i.each k here
            | inr past ↦
                let last : length targets ≡ k = omega (arith, below, length_push targets pair.1, past) in
                let place : at ≡ c.args.first + k = omega (arith, last, i.count) in
                get_or_push targets pair.1 0 k last ∙ ap (λ (j : ℕ). (pair_at pairs (pair_at order j).1).1) place
          ];
      within =
          All-append (λ t. t < asked.network.now.n) targets (pair.1 ∷ []) i.within
          (All-cons (λ t. t < asked.network.now.n) pair.1 [] within.1 (All-nil _));
    })
