use Rattle.hierarchy.proofs.Arcs.{arc-of_target, met-down, met-here, met-up}
use Rattle.hierarchy.proofs.bridges.is_near.Goals as goal

pub returns-then-u-v : goal.returns-then-u-v
returns-then-u-v c = λ _. met-here c.args.up.now.arcs c.args.down.now.arcs c.args.u c.args.v c.args.most c.if-u-v.true

pub returns-then-u-v-2 : goal.returns-then-u-v-2
returns-then-u-v-2 c =
    λ is.
    met-up c.args.up.now.arcs c.args.down.now.arcs c.args.u c.args.v c.args.most
    (arc-of_target c.args.up.now c.row.ensures.in_rows c.args.u c.row.result.now c.row.ensures.targets c.args.v c.args.most
    (c.leads.ensures is))

pub returns : goal.returns
returns c =
    λ is.
    met-down c.args.up.now.arcs c.args.down.now.arcs c.args.u c.args.v c.args.most
    (arc-of_target c.args.down.now c.row-2.ensures.in_rows c.args.v c.row-2.result.now c.row-2.ensures.targets c.args.u
    c.args.most (c.leads-2.ensures is))
