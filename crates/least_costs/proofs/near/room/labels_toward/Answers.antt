use Rattle.least_costs.proofs.near.room.labels_toward.Goals as goal

pub returns-in-Some : goal.returns-in-Some
returns-in-Some c =
    rw (← c.network.view_is) (c.labels_toward.ensures.least (rw (← c.network.view_is) at c.requires.bounds))
