use Rattle.std.proofs.Common.{◌≡◌, ◌<◌, ◌⊎◌, length, subst, arith, ℕ}
use Rattle.std.specs.Prelude.{All, slice_index}
use Rattle.std.proofs.lemmas.List.{get_or_read}
use Rattle.csr_graph.specs.declared.target.Target.{Target}
use Rattle.csr_graph.proofs.Facts.{row_heads}
use Rattle.near_labels.specs.Sweep.{IsOffered}
use Rattle.near_labels.proofs.Sweeping.{lowered-kept, lowered-put}
use Rattle.near_labels.proofs.sweep.lower_along.Goals as goal

pub least_along-least-requires-clause-heads : goal.least_along-least-requires-clause-heads
least_along-least-requires-clause-heads c =
    let down = c.args.down.now in
    let long : down.n ≡ length c.deref.result.now = omega (arith, c.deref.ensures.len, c.requires.count) in
    subst (λ (m : ℕ). All (λ (target : Target). target.head < m) c.row.result.now) long
    (rw c.row.ensures.targets (row_heads down c.row.ensures.in_rows c.args.v))

pub returns-then-least-label-clause-lowered : goal.returns-then-least-label-clause-lowered
returns-then-least-label-clause-lowered c =
    let labels = c.args.state.now.labels.items in
    let at : c.index-label.result.now ≡ slice_index labels c.args.v =
    get_or_read labels c.args.v c.index-label.result.now (omega (arith, c.requires.count, c.requires.vertex))
    c.index-label.ensures 0 in
    λ _.
    lowered-kept c.args.down.now c.args.v c.least_along-least.result c.row.result.now labels c.row.ensures.targets
    (rw c.deref.ensures.value at c.least_along-least.ensures.low) (omega (arith, c.if-least-label.true, at))

pub returns-clause-lowered : goal.returns-clause-lowered
returns-clause-lowered c =
    let labels = c.args.state.now.labels.items in
    let d = c.least_along-least.result in
    let row = c.row.result.now in
    let below : c.args.v < length labels = omega (arith, c.requires.count, c.requires.vertex) in
    let at : c.index-label.result.now ≡ slice_index labels c.args.v =
    get_or_read labels c.args.v c.index-label.result.now below c.index-label.ensures 0 in
    let met : (d ≡ c.index-label.result.now) ⊎ IsOffered row (slice_index labels) d =
    rw c.deref.ensures.value at c.least_along-least.ensures.met in
    λ is.
    rw (c.put.ensures.labels is)
    (lowered-put c.args.down.now c.row.ensures.in_rows c.args.v d row labels c.row.ensures.targets below
    (rw c.deref.ensures.value at c.least_along-least.ensures.low) (omega (arith, c.least_along-least.ensures.falls, at))
    (subst (λ (x : ℕ). (d ≡ x) ⊎ IsOffered row (slice_index labels) d) at met))
