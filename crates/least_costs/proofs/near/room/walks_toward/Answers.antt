use Rattle.std.proofs.Common.{rules}
use Rattle.least_costs.proofs.near.room.walks_toward.Goals as goal
use Rattle.least_costs.proofs.near.room.walks_toward.Goals.{in-Some-Some, in_default}

pub returns : goal.returns
returns c =
    elim c.match-space.branch [
      | in_default w ↦ rw w.result-is (search rules)
      | in-Some-Some w ↦
          rw (w.result-is, ← c.network.view_is)
          (w.walks_toward.ensures.walks (rw (← c.network.view_is) at c.requires.bounds))
    ]
