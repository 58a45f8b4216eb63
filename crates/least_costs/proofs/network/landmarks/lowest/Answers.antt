-- One vertex more.
use Rattle.std.proofs.Common.{◌≤◌, ℕ, arith, subst, take}
use Rattle.std.specs.Prelude.{All}
use Rattle.std.proofs.lemmas.List.{take_all}
use Rattle.std.proofs.lemmas.List.Elements.{All-more}
use Rattle.least_costs.specs.Landmarks.{column}
use Rattle.least_costs.proofs.network.landmarks.lowest.Goals as goal

pub loop-vertex-preserved : goal.loop-vertex-preserved
loop-vertex-preserved c =
    let cells = c.args.cells.now in
    let vertices = c.args.vertices.now in
    let before : All (λ t. c.min-least.result ≤ column c.args.count cells c.args.i t) (take c.loop-vertex.vertex-index vertices) =
    λ k d lt. omega (arith, c.loop-vertex.invariant k d lt, c.min-least.ensures) in
    All-more (λ (t : ℕ). c.min-least.result ≤ column c.args.count cells c.args.i t) vertices c.loop-vertex.vertex-index 0
    c.loop-vertex-test.true before (omega (arith, c.min-least.ensures, c.cell_at.ensures))

pub returns : goal.returns
returns c =
    let cells = c.args.cells.now in
    subst (All (λ (t : ℕ). c.loop-vertex.least ≤ column c.args.count cells c.args.i t))
    (take_all c.loop-vertex.vertex-index c.args.vertices.now c.loop-vertex-test.false) c.loop-vertex.invariant
