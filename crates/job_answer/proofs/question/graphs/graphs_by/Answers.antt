use Rattle.std.proofs.Common.{subst}
use Rattle.least_costs.specs.declared.cost.Cost.{Cost}
use Rattle.least_costs.specs.Network.{IsNetworkOf}
use Rattle.job_answer.proofs.question.graphs.graphs_by.Goals as goal

pub returns-clause-network : goal.returns-clause-network
returns-clause-network g c n arcs are =
    subst (λ (kind : Cost). IsNetworkOf n kind arcs c.in_ok-network.network) c.cost_for.ensures
    (c.in_ok-network.ensures.network n arcs are)
