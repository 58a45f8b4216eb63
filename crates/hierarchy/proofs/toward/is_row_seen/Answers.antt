use Rattle.std.proofs.Common.{◌≡◌, true, false, subst}
use Rattle.std.specs.Prelude.{All, slice_index_or}
use Rattle.std.proofs.lemmas.List.{take_all}
use Rattle.std.proofs.lemmas.List.Elements.{All-more}
use Rattle.csr_graph.specs.declared.target.Target.{Target}
use Rattle.csr_graph.proofs.Facts.{no_target}
use Rattle.hierarchy.proofs.toward.is_row_seen.Goals as goal

pub loop-target-preserved : goal.loop-target-preserved
loop-target-preserved c =
    All-more (λ (t : Target). slice_index_or c.args.seen.now t.head false ≡ true) c.args.row.now c.loop-target.target-index
    no_target c.loop-target-test.true c.loop-target.invariant c.if-not-seen-place.false

pub returns : goal.returns
returns c =
    λ _.
    subst (All (λ (t : Target). slice_index_or c.args.seen.now t.head false ≡ true))
    (take_all c.loop-target.target-index c.args.row.now c.loop-target-test.false) c.loop-target.invariant
