-- What workers need of a seat, and what they make of it.
use Rattle.std.specs.Prelude.{◌≡◌, ℕ, ◌≤◌, true, Option, None}
use Rattle.csr_graph.specs.Graph.{Graph}
use Rattle.relax_core.specs.declared.views.Hand.TheVariants.{Idle}
use Rattle.relax_core.specs.declared.views.TheConstants.{SHARES}
use Rattle.relax_core.specs.declared.views.View.{View}
use Rattle.relax_core.specs.Views.{Owes, vertex_of}
use Rattle.label_words.specs.Callers.{Stays}
use Rattle.label_words.specs.Known.{Held}
use Rattle.obim_engine.specs.declared.goal.Goal.{Goal}
use Rattle.obim_engine.specs.declared.goal.Goal.TheVariants as goal

-- a seat can lead this number of workers on a graph: it holds nothing, and has a share for each of them
pub record CanLead (graph : Graph) (workers : ℕ) (seat : Held) : Type 0 where
  pub graph_is : graph ≡ seat.known.graph
  pub idle : seat.known.view.hand ≡ Idle
  pub enough : workers ≤ seat.known.view.share
  pub shares : seat.known.view.share ≤ SHARES

-- workers are done: the seat is still of its words and holds nothing, and where the labels of all vertices are
-- wanted, without a budget, it saw the pending total at 0
pub record AreDone (budget : Option ℕ) (wanted : Goal) (old new : Held) : Type 0 where
  pub stays : Stays old new
  pub idle : new.known.view.hand ≡ Idle
  pub saw : budget ≡ None → wanted ≡ goal.EachVertex → new.known.view.saw ≡ true

-- in the row of u a label was lowered whose vertex is owed a mark, and the seat has credits
pub record OwesMark (u : ℕ) (view : View) : Type 0 where
  pub hand : Owes view.hand
  pub vertex : vertex_of view.hand ≡ u
  pub credits : 1 ≤ view.credits
