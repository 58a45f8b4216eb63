-- Labels that are least up to the limit are so on each way.
use Rattle.std.proofs.Common.{rules}
use Rattle.route_walks.specs.Operators.{seeds_from}
use Rattle.route_walks.proofs.Facts.{least_up_to_is_least_toward}
use Rattle.near_labels.proofs.space.SearchSpace.walks_to.Goals as goal
use Rattle.near_labels.proofs.space.SearchSpace.walks_to.Goals.{in-Some, in-None}

pub returns-clause-walks : goal.returns-clause-walks
returns-clause-walks c =
    elim c.match-reached.branch [
      | in-None w ↦ rw w.found-is (search rules)
      | in-Some w ↦
          rw w.found-is
          (w.walks_by_labels-found.ensures.walks
          (λ k d lt v below.
          rw w.deref.ensures.value
          (least_up_to_is_least_toward w.in-Some.limit c.args.csr.now.arcs (seeds_from c.args.source) _ v _
          (w.in-Some.ensures.least.least v below))))
    ]
