use Rattle.std.proofs.Common.{slice_index, subst}
use Rattle.std.specs.Prelude.{All}
use Rattle.std.proofs.lemmas.List.{take_all}
use Rattle.std.proofs.lemmas.List.Elements.{All-more}
use Rattle.csr_graph.specs.Graph.{targets_of}
use Rattle.csr_graph.specs.declared.target.Target.{Target}
use Rattle.csr_graph.proofs.Facts.{no_target}
use Rattle.hierarchy.specs.Checked.{IsMade}
use Rattle.hierarchy.proofs.made.is_row_made_down.Goals as goal

pub loop-target-preserved : goal.loop-target-preserved
loop-target-preserved c =
    let parts = c.args.parts.now in
    let row = targets_of parts.down.arcs c.args.u in
    let is = c.row-target-items.ensures.targets in
    All-more
    (λ (target : Target). IsMade (slice_index parts.vertices.items) c.args.csr.now.arcs parts.up.arcs parts.down.arcs
    target.head c.args.u target.weight) row c.loop-target.target-index no_target
    (rw is at c.loop-target-test.true) c.loop-target.invariant (rw is at (c.is_made.ensures c.if-not-is_made.false))

pub returns : goal.returns
returns c =
    let parts = c.args.parts.now in
    let row = targets_of parts.down.arcs c.args.u in
    let is = c.row-target-items.ensures.targets in
    λ _.
    subst
    (All (λ (target : Target). IsMade (slice_index parts.vertices.items) c.args.csr.now.arcs parts.up.arcs
    parts.down.arcs target.head c.args.u target.weight)) (take_all c.loop-target.target-index row (rw is at c.loop-target-test.false))
    c.loop-target.invariant
