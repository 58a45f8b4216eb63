use Rattle.std.proofs.Common.{rules}
use Rattle.near_labels.proofs.space.SearchSpace.walks_toward.Goals as goal
use Rattle.near_labels.proofs.space.SearchSpace.walks_toward.Goals.{in-Some, in-None}

pub returns-clause-walks : goal.returns-clause-walks
returns-clause-walks c bounds =
    elim c.match-search_way_toward.branch [
      | in-None w ↦ rw w.found-is (search rules)
      | in-Some w ↦
          rw w.found-is (w.walks_by_labels-found.ensures.walks (rw w.deref.ensures.value (w.in-Some.ensures.least bounds)))
    ]
