use Rattle.least_costs.proofs.Networks.{graph-along, light-along}
use Rattle.least_costs.proofs.network.Network.along.Goals as goal

pub returns-clause-ends : goal.returns-clause-ends
returns-clause-ends c =
    let n = c.self.inside.rows.n in
    let ends = rw c.n.ensures.vertices at c.in-None.ensures.none in
    rw (← c.self.view_is, c.in_ok-along.ensures.exact) (graph-along n c.self.inside.cost c.args.added.now ends)

pub returns-clause-light : goal.returns-clause-light
returns-clause-light c =
    rw c.in_ok-along.ensures.exact (light-along c.self.inside.cost c.args.added.now c.in-None.ensures.light)
