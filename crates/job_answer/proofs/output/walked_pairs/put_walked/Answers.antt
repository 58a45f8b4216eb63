use Rattle.std.proofs.Common.{◌≡◌, ◌+◌, ◌-◌, ◌≤◌, ◌∙◌, ℕ, ap, arith, drop, subst, take}
use Rattle.std.proofs.lemmas.List.{get_or-drop, length-drop}
use Rattle.job_answer.specs.AnswerText.{AreBlocks}
use Rattle.job_answer.specs.Sinks.{Puts}
use Rattle.job_answer.specs.Tasks.{IsWalkedBlock}
use Rattle.least_costs.specs.Pairs.{pair_at}
use Rattle.job_answer.proofs.BlockLists.{blocks-more, blocks-none}
use Rattle.job_answer.proofs.output.walked_pairs.put_walked.Goals as goal

pub put_pair_at-requires-clause-walked : goal.put_pair_at-requires-clause-walked
put_pair_at-requires-clause-walked g c =
    c.requires.walked c.loop-at.at (omega (arith, c.loop-at.auto.at)) c.loop-at-test.true

pub put_pair_at-requires-clause-after : goal.put_pair_at-requires-clause-after
put_pair_at-requires-clause-after g c =
    c.requires.after c.loop-at.at (omega (arith, c.loop-at.auto.at)) c.loop-at-test.true

pub loop-at-init : goal.loop-at-init
loop-at-init g c =
    let queries = c.args.queries.now in
    let first = c.args.solve.first in
    let none : 0 ≡ first - first = omega arith in
    subst
    (λ (k : ℕ).
    Puts g.W.Write.contents (AreBlocks (IsWalkedBlock queries.graphs.now) (take k (drop first queries.pairs.now)))
    c.args.sink.now c.args.sink.now)
    none (blocks-none (IsWalkedBlock queries.graphs.now) g.W.Write.contents c.args.sink.now)

pub loop-at-preserved : goal.loop-at-preserved
loop-at-preserved g c =
    let block = IsWalkedBlock c.args.queries.now.graphs.now in
    let k = c.loop-at.at in
    let pairs = c.args.queries.now.pairs.now in
    let first = c.args.solve.first in
    let from : first ≤ k = omega (arith, c.loop-at.auto.at) in
    let place : first + (k - first) ≡ k = omega (arith, from) in
    let there = get_or-drop first pairs (k - first) (0, 0) ∙ ap (pair_at pairs) place in
    let next : (k - first) + 1 ≡ (k + 1) - first = omega (arith, from) in
    subst
    (λ (j : ℕ). Puts g.W.Write.contents (AreBlocks block (take j (drop first pairs))) c.args.sink.now c.put_pair_at.new.sink)
    next
    (blocks-more block g.W.Write.contents (drop first pairs) (k - first) (0, 0)
    (omega (arith, c.loop-at-test.true, from, c.requires.solve.within, length-drop first pairs)) c.loop-at.invariant
    (rw there c.put_pair_at.ensures))

pub returns : goal.returns
returns g c =
    let queries = c.args.queries.now in
    let first = c.args.solve.first in
    let ended : c.loop-at.at ≡ c.args.solve.end =
    omega (arith, c.loop-at-test.false, c.loop-at.auto.at-end, c.requires.solve.some) in
    subst
    (λ (k : ℕ).
    Puts g.W.Write.contents (AreBlocks (IsWalkedBlock queries.graphs.now) (take (k - first) (drop first queries.pairs.now)))
    c.args.sink.now c.loop-at.sink)
    ended c.loop-at.invariant
