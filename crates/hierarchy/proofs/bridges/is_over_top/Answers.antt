use Rattle.std.proofs.Common.{◌-◌, get_or, refl, arith}
use Rattle.std.proofs.lemmas.List.Elements.{Contains-get_or}
use Rattle.csr_graph.specs.declared.target.Target.{Target}
use Rattle.csr_graph.proofs.Facts.{no_target}
use Rattle.hierarchy.specs.Checked.{HasTarget}
use Rattle.hierarchy.proofs.Arcs.{arc-of_target, met-over}
use Rattle.hierarchy.proofs.bridges.is_over_top.Goals as goal

pub returns-then-leads : goal.returns-then-leads
returns-then-leads c =
    λ _.
    let up = c.args.up.now in
    let down = c.args.down.now in
    let row = c.row-target-items.result.now in
    let target : Target = get_or row c.loop-target.target-index no_target in
    let rest = c.args.most - c.from-weight.result in
    let onto : HasTarget row target.head target.weight = record {
      target = target;
      within = Contains-get_or row c.loop-target.target-index no_target c.loop-target-test.true;
      enters = refl;
      cheap = omega arith;
    } in
    met-over up.arcs down.arcs c.args.u c.args.v target.head target.weight rest c.args.most
    (arc-of_target up c.row-target-items.ensures.in_rows c.args.u row c.row-target-items.ensures.targets target.head
    target.weight onto)
    (arc-of_target down c.row-falls.ensures.in_rows c.args.v c.row-falls.result.now c.row-falls.ensures.targets target.head
    rest (c.leads.ensures c.if-leads.true)) (omega (arith, c.from-weight.ensures, c.if-weight-most.true))
