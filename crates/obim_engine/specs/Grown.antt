-- Arcs that are added to a graph, and what that makes of a pause.
use Rattle.std.specs.Prelude.{◌≡◌, ℕ, ◌==◌, ◌||◌, Bool, List, ◌++◌, length}
use Rattle.std.specs.List.{list_any}
use Rattle.route_walks.specs.declared.graph.ArcRec.{ArcRec}
use Rattle.route_walks.specs.Walk.{HaveSameArcs}
use Rattle.csr_graph.specs.Graph.{Graph}
use Rattle.relax_core.specs.State.{mark_of}

-- a graph has grown by these arcs: its vertices are as before, and its arcs are those it had and these
pub record IsGrown (graph : Graph) (added : List ArcRec) (grown : Graph) : Type 0 where
  pub vertices : grown.n ≡ graph.n
  pub arcs : HaveSameArcs grown.arcs (graph.arcs ++ added)

-- a vertex is marked if it was, or if an added arc leaves it
pub record TailsAreMarked (added : List ArcRec) (old new : List Bool) : Type 0 where
  pub count : length new ≡ length old
  pub marks : (v : ℕ) → mark_of new v ≡ (mark_of old v || list_any (λ arc. arc.tail == v) added)
