-- The target alone is asked for.
use Rattle.std.proofs.Common.{ℕ, [], rules, slice_index}
use Rattle.std.proofs.lemmas.List.Elements.{All-cons, All-nil}
use Rattle.route_walks.specs.Limit.{AreLeastToward}
use Rattle.route_walks.specs.Operators.{seeds_from}
use Rattle.near_labels.proofs.space.SearchSpace.walk_between.Goals as goal
use Rattle.near_labels.proofs.space.SearchSpace.walk_between.Goals.{in-Some, in-None}

pub returns-clause-walks : goal.returns-clause-walks
returns-clause-walks c =
    elim c.match-way_from_both.branch [
      | in-None w ↦ rw w.found-is (search rules)
      | in-Some w ↦
          let graph = c.args.ways.now.csr.now in
          let labels = c.way_from_both.new.forward.labels.items in
          let IsLeastThere : ℕ → Type 0 =
          λ t. AreLeastToward w.in-Some.limit graph.n graph.arcs (seeds_from c.args.source) t (slice_index labels) in
          rw w.found-is
          (w.walks_by_labels-found.ensures.walks
          (rw w.deref.ensures.value
          (All-cons IsLeastThere c.args.target [] w.in-Some.ensures.least (All-nil IsLeastThere))))
    ]
