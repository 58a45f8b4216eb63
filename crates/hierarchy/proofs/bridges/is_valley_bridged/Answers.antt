use Rattle.std.proofs.Common.{subst, arith}
use Rattle.std.specs.Prelude.{All}
use Rattle.std.proofs.lemmas.List.{take_all}
use Rattle.std.proofs.lemmas.List.Elements.{All-more}
use Rattle.csr_graph.specs.declared.target.Target.{Target}
use Rattle.csr_graph.proofs.Facts.{no_target}
use Rattle.hierarchy.specs.Checked.{AreMet}
use Rattle.hierarchy.proofs.bridges.is_valley_bridged.Goals as goal

pub loop-from-preserved : goal.loop-from-preserved
loop-from-preserved c = record {
  room = omega (arith, c.is_row_met.ensures.probe, c.loop-from.invariant.room);
  met =
      All-more
      (λ (from : Target). AreMet c.args.parts.now.up.arcs c.args.parts.now.down.arcs from.head from.weight c.args.rises.now)
      c.args.falls.now c.loop-from.from-index no_target c.loop-from-test.true c.loop-from.invariant.met
      (c.is_row_met.ensures.met c.if-not-is_row_met.false);
}

pub returns-clause-met : goal.returns-clause-met
returns-clause-met c =
    λ _.
    subst
    (All (λ (from : Target). AreMet c.args.parts.now.up.arcs c.args.parts.now.down.arcs from.head from.weight
    c.args.rises.now)) (take_all c.loop-from.from-index c.args.falls.now c.loop-from-test.false) c.loop-from.invariant.met
