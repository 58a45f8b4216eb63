-- One vertex more.
use Rattle.std.proofs.Common.{◌≤◌, ℕ, arith, subst, take}
use Rattle.std.specs.Prelude.{All}
use Rattle.std.proofs.lemmas.List.{take_all}
use Rattle.std.proofs.lemmas.List.Elements.{All-more}
use Rattle.least_costs.specs.Landmarks.{column}
use Rattle.least_costs.proofs.network.landmarks.highest.Goals as goal

pub loop-vertex-preserved : goal.loop-vertex-preserved
loop-vertex-preserved c =
    let cells = c.args.cells.now in
    let vertices = c.args.vertices.now in
    let before : All (λ t. column c.args.count cells c.args.i t ≤ c.max-most.result) (take c.loop-vertex.vertex-index vertices) =
    λ k d lt. omega (arith, c.loop-vertex.invariant k d lt, c.max-most.ensures) in
    All-more (λ (t : ℕ). column c.args.count cells c.args.i t ≤ c.max-most.result) vertices c.loop-vertex.vertex-index 0
    c.loop-vertex-test.true before (omega (arith, c.max-most.ensures, c.cell_at.ensures))

pub returns : goal.returns
returns c =
    let cells = c.args.cells.now in
    subst (All (λ (t : ℕ). column c.args.count cells c.args.i t ≤ c.loop-vertex.most))
    (take_all c.loop-vertex.vertex-index c.args.vertices.now c.loop-vertex-test.false) c.loop-vertex.invariant
