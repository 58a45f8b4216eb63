-- A run that goes on by one event.
use Rattle.std.proofs.Common.{◌≡◌, refl, ℕ, List}
use Rattle.std.proofs.Common.{[], ◌∷◌, ◌++◌, Some, take}
use Rattle.route_walks.specs.declared.graph.Seed.{Seed}
use Rattle.csr_graph.specs.Graph.{Graph}
use Rattle.relax_core.specs.declared.events.Event.{Event}
use Rattle.relax_core.specs.State.{State, IsLawful}
use Rattle.relax_core.specs.Events.{after, Run}
use Rattle.relax_core.specs.Runs.{IsReached}

-- the core that the loop has come to
pub record IsReplaying (graph : Graph) (seeds : List Seed) (events : List Event) (i : ℕ) (core : State) : Type 0 where
  pub reached : IsReached graph seeds (take i events) core
  pub lawful : IsLawful graph seeds core

-- a run is longer by an event that is enabled where it ends
pub run_on : (graph : Graph) (state middle last : State) (events : List Event) (event : Event)
    → Run graph state events middle → after graph middle event ≡ Some last → Run graph state (events ++ event ∷ []) last
run_on graph state middle last [] event run step =
    (last, rw run step, refl)
run_on graph state middle last (first ∷ events) event run step =
    (run.0, run.1, run_on graph run.0 middle last events event run.2 step)
