use Rattle.std.proofs.Common.{◌≡◌, ◌+◌, ℕ, get_or, subst, arith}
use Rattle.std.specs.Prelude.{All}
use Rattle.std.proofs.lemmas.List.{take_all}
use Rattle.std.proofs.lemmas.List.Elements.{All-more}
use Rattle.csr_graph.specs.declared.target.Target.{Target}
use Rattle.csr_graph.proofs.Facts.{no_target}
use Rattle.near_labels.specs.UpDown.{HasUpDown}
use Rattle.hierarchy.proofs.bridges.is_row_met.Goals as goal

pub loop-target-preserved : goal.loop-target-preserved
loop-target-preserved c =
    let ups = c.args.parts.now.up.arcs in
    let downs = c.args.parts.now.down.arcs in
    let target : Target = get_or c.args.row.now c.loop-target.target-index no_target in
    let most : c.from.result + c.from-in-loop-target.result ≡ c.args.add + target.weight =
    omega (arith, c.from.ensures, c.from-in-loop-target.ensures) in
    record {
      room = omega (arith, c.is_met.ensures.probe, c.loop-target.invariant.room);
      met =
          All-more (λ (t : Target). HasUpDown ups downs c.args.u t.head (c.args.add + t.weight)) c.args.row.now
          c.loop-target.target-index no_target c.loop-target-test.true c.loop-target.invariant.met
          (subst (λ (m : ℕ). HasUpDown ups downs c.args.u target.head m) most
          (c.is_met.ensures.met c.if-not-is_met.false));
    }

pub returns-clause-met : goal.returns-clause-met
returns-clause-met c =
    λ _.
    subst
    (All (λ (t : Target). HasUpDown c.args.parts.now.up.arcs c.args.parts.now.down.arcs c.args.u t.head
    (c.args.add + t.weight))) (take_all c.loop-target.target-index c.args.row.now c.loop-target-test.false)
    c.loop-target.invariant.met
