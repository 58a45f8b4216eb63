-- The limit serves each target, so that the walks tell its lines.
use Rattle.std.proofs.Common.{◌<◌, ◌∙◌, ℕ, List, ap, arith, get_or, slice_index}
use Rattle.job_answer.specs.Graphs.{HasGrown}
use Rattle.job_answer.proofs.output.walked_pairs.walks_to.Goals as goal

pub returns-in_ok-before-in-None : goal.returns-in_ok-before-in-None
returns-in_ok-before-in-None g c = record {
  before = λ k d lt.
      let t = get_or c.args.targets.now k d in
      let same = ap (λ (xs : List ℕ). slice_index xs t)
      (c.in_ok-before-in-None.ensures.labels ∙ c.into_labels.ensures.labels) in
      c.in_ok-before-in-None.ensures.walked t (c.requires.targets k d lt)
      (omega (arith, c.in_ok-costs.ensures.costs.served k d lt, same, c.limit-limit.ensures.limit));
  after = λ k d lt. rw c.in-None.is tt;
}

pub returns-in_ok-before-in-Some : goal.returns-in_ok-before-in-Some
returns-in_ok-before-in-Some g c =
    let graphs = c.args.graphs.now in
    let grown = c.in-Some.grown in
    let grows : HasGrown graphs.network grown = rw c.in-Some.is at c.requires.graphs.grows in
    record {
      before = λ k d lt.
          let t = get_or c.args.targets.now k d in
          let copied = c.in_ok-labels-in-Some.ensures.items_if_clones_equal (λ x y clone. clone) in
          let same = ap (λ (xs : List ℕ). slice_index xs t)
          (c.in_ok-before-in-Some.ensures.labels ∙ copied ∙ c.labels.ensures.labels) in
          c.in_ok-before-in-Some.ensures.walked t (c.requires.targets k d lt)
          (omega (arith, c.in_ok-costs.ensures.costs.served k d lt, same, c.limit-limit.ensures.limit));
      after = λ k d lt.
          let t = get_or c.args.targets.now k d in
          let there : t < grown.network.n = omega (arith, c.requires.targets k d lt, grows.to.vertices) in
          let same = ap (λ (xs : List ℕ). slice_index xs t)
          (c.in_ok-after-in-Some.ensures.labels ∙ c.into_labels-in-Some.ensures.labels) in
          rw c.in-Some.is
          (c.in_ok-after-in-Some.ensures.walked t there
          (omega (arith, c.in_ok-costs-in-Some.ensures.costs.served k d lt, same, c.limit-far.ensures.limit)));
    }
