use Rattle.std.proofs.Common.{◌<◌, ◌≡◌, subst, arith, ℕ}
use Rattle.std.specs.Prelude.{All}
use Rattle.csr_graph.specs.declared.target.Target.{Target}
use Rattle.csr_graph.proofs.Facts.{row_heads}
use Rattle.hierarchy.proofs.Arcs.{bridged-all}
use Rattle.hierarchy.proofs.bridges.are_bridged.Goals as goal

pub is_valley_bridged-requires-clause-falls : goal.is_valley_bridged-requires-clause-falls
is_valley_bridged-requires-clause-falls c =
    let down = c.args.parts.now.down in
    let same : down.n ≡ c.loop-v.probe = omega (arith, c.requires.down_room, c.loop-v.invariant.room) in
    let below : All (λ (target : Target). target.head < down.n) c.row.result.now =
    rw c.row.ensures.targets (row_heads down c.row.ensures.in_rows c.loop-v.v) in
    subst (λ (m : ℕ). All (λ (target : Target). target.head < m) c.row.result.now) same below

pub is_valley_bridged-requires-clause-rises : goal.is_valley_bridged-requires-clause-rises
is_valley_bridged-requires-clause-rises c =
    let up = c.args.parts.now.up in
    let same : up.n ≡ c.loop-v.probe = omega (arith, c.requires.up_room, c.loop-v.invariant.room) in
    let below : All (λ (target : Target). target.head < up.n) c.row-in-loop-v.result.now =
    rw c.row-in-loop-v.ensures.targets (row_heads up c.row-in-loop-v.ensures.in_rows c.loop-v.v) in
    subst (λ (m : ℕ). All (λ (target : Target). target.head < m) c.row-in-loop-v.result.now) same below

pub returns-clause-bridged : goal.returns-clause-bridged
returns-clause-bridged c =
    λ _.
    bridged-all c.args.parts.now.up c.args.parts.now.down c.loop-v.v c.n-v-end.ensures.in_rows c.n.ensures.in_rows
    (omega (arith, c.requires.up_room, c.requires.down_room))
    (omega (arith, c.n-v-end.ensures.vertices, c.loop-v-test.false)) c.loop-v.invariant.met
