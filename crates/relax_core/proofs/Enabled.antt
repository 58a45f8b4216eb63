-- Where an event is enabled, and what keeps its numbers and places in range.
use Rattle.std.proofs.Common.{◌≡◌, subst, ℕ, ◌+◌, ◌<◌, Bool, true, false}
use Rattle.std.proofs.Common.{Option, Some, None, length, get_or, arith}
use Rattle.std.specs.Prelude.{IfSome, slice_get}
use Rattle.std.proofs.lemmas.Option.{slice_get-get_or}
use Rattle.route_walks.specs.declared.graph.ArcRec.{ArcRec}
use Rattle.csr_graph.specs.Graph.{Graph, end_place}
use Rattle.csr_graph.proofs.Facts.{first_place_le}
use Rattle.relax_core.specs.declared.views.View.{View}
use Rattle.relax_core.specs.Views.{no_arc}
use Rattle.relax_core.specs.State.{State, IsOf}
use Rattle.relax_core.specs.Events.{after_at, live_view}

-- an event at a live seat whose view allows it leads to the state that it makes
pub enabled : (state last : State) (s : ℕ) (v : View) (may : View → Bool) (next : View → State)
    → live_view state.views s ≡ Some v → may v ≡ true → next v ≡ last → after_at state s may next ≡ Some last
enabled state last s v may next live is same = rw (live, is, same)

-- and one whose view doesn't allow it isn't enabled
pub refused : (state : State) (s : ℕ) (v : View) (may : View → Bool) (next : View → State)
    → live_view state.views s ≡ Some v → may v ≡ false → after_at state s may next ≡ None
refused state s v may next live is = rw (live, is)

-- what holds of the arc at a place, where there is one
pub arc_at_place : (P : ArcRec → Type 0) (graph : Graph) (k : ℕ) → k < length graph.arcs
    → IfSome (slice_get graph.arcs k) P → P (get_or graph.arcs k no_arc)
arc_at_place P graph k lt is =
    subst (λ (arc : Option ArcRec). IfSome arc P) (slice_get-get_or graph.arcs k no_arc lt) is

-- the head of an arc of a row has a label
pub head_labelled : (graph : Graph) (state : State) (u k head : ℕ) → IsOf graph state → k < end_place graph.arcs u
    → IfSome (slice_get graph.arcs k) (λ arc. arc.head ≡ head) → head < length state.labels
head_labelled graph state u k head of before at =
    let place : k < length graph.arcs = omega (arith, first_place_le graph.arcs (u + 1)) in
    let is = arc_at_place (λ arc. arc.head ≡ head) graph k place at in
    omega (arith, of.1.rows.ends k no_arc place, of.1.labels)
