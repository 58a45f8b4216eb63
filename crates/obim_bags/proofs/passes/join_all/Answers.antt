use Rattle.std.proofs.Common.{◌≡◌, ◌++◌, ◌∷◌, [], ◌+◌, ℕ, List, ap, ◌∙◌, arith}
use Rattle.std.specs.Prelude.{sum_by}
use Rattle.std.proofs.lemmas.Grind.{common_steps}
use Rattle.std.proofs.lemmas.List.{map-append}
use Rattle.std.proofs.lemmas.List.Sums.{sum_by-append, sum_by_push}
use Rattle.obim_bags.specs.declared.bag_rule.Tally.{Tally}
use Rattle.obim_bags.specs.BagRule.{weight_of, joined}
use Rattle.obim_bags.specs.Bags.{PassSeen, AreJoined, tallies_of}
use Rattle.obim_bags.proofs.BagRule.{joins}
use Rattle.obim_bags.proofs.passes.join_all.Goals as goal

sum_last : (f : Tally → ℕ) (rest : List PassSeen) (pass : PassSeen)
    → sum_by f (tallies_of (rest ++ pass ∷ [])) ≡ sum_by f (tallies_of rest) + f pass.tally
sum_last f rest pass = rw map-append (sum_by_push f (tallies_of rest) pass.tally)

-- the last of the rest is joined too
one_more : (all rest : List PassSeen) (pass : PassSeen) (tally : Tally) → AreJoined all (rest ++ pass ∷ []) tally
    → AreJoined all rest (joined tally pass.tally)
one_more all rest pass tally was = record {
  shares = omega (arith, was.shares, sum_last (λ (t : Tally). t.share) rest pass);
  put = λ weight.
      omega (
        arith,
        was.put weight,
        sum_last (λ (t : Tally). weight_of weight t.put) rest pass,
        sum_by-append weight tally.put pass.tally.put,
      );
  got = λ weight.
      omega (
        arith,
        was.got weight,
        sum_last (λ (t : Tally). weight_of weight t.got) rest pass,
        sum_by-append weight tally.got pass.tally.got,
      );
}

pub absorb-requires-clause-rule : goal.absorb-requires-clause-rule
absorb-requires-clause-rule c = joins _ _ _ _ c.loop-other.invariant.live

pub loop-other-preserved : goal.loop-other-preserved
loop-other-preserved c =
    let both = rw c.into_pass.ensures.tally at c.absorb.ensures.rule in
    let share = ap (λ (t : Tally). t.share) both in
    let was = rw c.in-Some.ensures.items at c.loop-other.invariant.joined in
    record {
      rest = grind (arith, common_steps);
      pass = c.absorb.ensures.queue.0;
      workers = ap (λ (t : Tally). t.workers) both ∙ c.loop-other.invariant.workers;
      live = omega (arith, share, c.loop-other.invariant.live);
      count = omega (arith, share, c.into_pass.ensures.share, c.in-Some.ensures.len, c.loop-other.invariant.count);
      joined = rw both (one_more _ _ _ _ was);
    }
