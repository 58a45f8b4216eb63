use Rattle.std.proofs.Common.{◌<◌, subst}
use Rattle.std.specs.Prelude.{All}
use Rattle.std.proofs.lemmas.List.{take_all}
use Rattle.std.proofs.lemmas.List.Elements.{All-more}
use Rattle.csr_graph.specs.declared.target.Target.{Target}
use Rattle.csr_graph.proofs.Facts.{no_target}
use Rattle.hierarchy.proofs.rising.is_row_rising.Goals as goal

pub loop-target-preserved : goal.loop-target-preserved
loop-target-preserved c =
    All-more (λ (target : Target). c.args.u < target.head) c.args.row.now c.loop-target.target-index no_target
    c.loop-target-test.true c.loop-target.invariant c.if-target-u.false

pub returns : goal.returns
returns c =
    λ _.
    subst (All (λ (target : Target). c.args.u < target.head))
    (take_all c.loop-target.target-index c.args.row.now c.loop-target-test.false) c.loop-target.invariant
