-- The greatest of one more.
use Rattle.std.proofs.Common.{ℕ, ◌≤◌, take, subst, arith}
use Rattle.std.specs.Prelude.{All, slice_index}
use Rattle.std.proofs.lemmas.List.{take_all}
use Rattle.std.proofs.lemmas.List.Elements.{All-more}
use Rattle.near_labels.proofs.aim.farthest.Goals as goal

pub loop-target-preserved : goal.loop-target-preserved
loop-target-preserved c =
    let labels = c.args.labels.now in
    let targets = c.args.targets.now in
    let here = c.loop-target-test.true in
    let before : All (λ t. slice_index labels t ≤ c.max-most.result) (take c.loop-target.target-index targets) =
    λ k d lt. omega (arith, c.loop-target.invariant k d lt, c.max-most.ensures) in
    All-more (λ (t : ℕ). slice_index labels t ≤ c.max-most.result) targets c.loop-target.target-index 0 here before
    (omega (arith, c.max-most.ensures))

pub returns : goal.returns
returns c =
    let labels = c.args.labels.now in
    subst (All (λ (t : ℕ). slice_index labels t ≤ c.loop-target.most))
    (take_all c.loop-target.target-index c.args.targets.now c.loop-target-test.false) c.loop-target.invariant
