-- What a list of events leads to from the opening, and where it stops being a run.
use Rattle.std.specs.Prelude.{◌≡◌, ℕ, List, Some, None, slice_get, take}
use Rattle.route_walks.specs.declared.graph.Seed.{Seed}
use Rattle.csr_graph.specs.Graph.{Graph}
use Rattle.relax_core.specs.declared.events.Event.{Event}
use Rattle.relax_core.specs.State.{State, IsOpening}
use Rattle.relax_core.specs.Events.{after, Run}

-- the events are a run from the opening of a graph and seeds, and the state is where it ends
pub record IsReached (graph : Graph) (seeds : List Seed)
    (events : List Event) (last : State) : Type 0 where
  pub opening : State
  pub opens : IsOpening graph seeds opening
  pub run : Run graph opening events last

-- the first i events are a run, and event i is not enabled after it
pub record StopsAt (graph : Graph) (seeds : List Seed) (events : List Event) (i : ℕ) : Type 0 where
  pub state : State
  pub reached : IsReached graph seeds (take i events) state
  pub event : Event
  pub is : slice_get events i ≡ Some event
  pub refused : after graph state event ≡ None
