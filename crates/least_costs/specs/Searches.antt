-- What is asked of a kept pool. No promise to callers.
use Rattle.std.specs.Prelude.{IfSome}
use Rattle.route_walks.specs.Walk.{AreSeeds}
use Rattle.label_words.specs.Paused.{IsPause}
use Rattle.obim_engine.specs.Goal.{IsGoalWithin}
use Rattle.least_costs.specs.declared.workers.warm_pool.Search.{Search}
use Rattle.least_costs.specs.declared.workers.warm_pool.Task.{Task}
use Rattle.least_costs.specs.Network.{IsStartWithin, graph_of, seeds_at}

-- a search begins in its network, or goes on from a pause there, and wants vertices of it
pub record IsSearchWithin (search : Search) : Type 0 where
  pub start : IsStartWithin search.network.now.n search.start
  pub rest : IfSome search.rest (IsPause (graph_of search.network.now) (seeds_at search.network.now.n search.start))
  pub goal : IsGoalWithin search.network.now.n search.goal

-- so does a task over rows, by seeds
pub record IsTaskWithin (task : Task) : Type 0 where
  pub seeds : AreSeeds task.rows.now.n task.seeds.now
  pub rest : IfSome task.rest (IsPause task.rows.now task.seeds.now)
  pub goal : IsGoalWithin task.rows.now.n task.goal
