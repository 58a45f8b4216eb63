use Rattle.least_costs.proofs.network.rows_by.Goals as goal

pub returns-in_ok-arcs-in-Weight-clause-arcs : goal.returns-in_ok-arcs-in-Weight-clause-arcs
returns-in_ok-arcs-in-Weight-clause-arcs g c =
    rw (c.in-Weight.is, ← c.in_ok-arcs-in-Weight.ensures) c.build_from.ensures.arcs

pub returns-in-FreeBothWays-clause-arcs : goal.returns-in-FreeBothWays-clause-arcs
returns-in-FreeBothWays-clause-arcs g c = rw c.in-FreeBothWays.is c.with_both_ways.ensures.arcs
