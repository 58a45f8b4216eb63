-- What each event does, and where it is enabled; runs of events.
use Rattle.std.specs.Prelude.{◌≡◌, ℕ, ◌+◌, ◌-◌, ◌==◌, nat_lt, nat_le, min, Bool, true, false, ◌&&◌}
use Rattle.std.specs.Prelude.{if◌then◌else◌, Option, Some, None, List, [], ◌∷◌, ◌++◌}
use Rattle.std.specs.Prelude.{slice_get, slice_set, slice_index, option_and_then, MatchBool}
use Rattle.csr_graph.specs.Graph.{Graph, first_place, end_place}
use Rattle.relax_core.specs.declared.events.Event.{Event}
use Rattle.relax_core.specs.declared.events.Event.TheVariants.{Take, Read, Relax, Raise, RaiseBy, SetMark}
use Rattle.relax_core.specs.declared.events.Event.TheVariants.{Finish, Keep, Return, See, Split, Join}
use Rattle.relax_core.specs.declared.views.View.{View}
use Rattle.relax_core.specs.Views.{is_idle, is_kept, has_no_vertex, is_fresh, is_open, owes}
use Rattle.relax_core.specs.Views.{vertex_of, place_of, owed_of, next_arc, next_offer, idle_view, taken, opened}
use Rattle.relax_core.specs.Views.{went_along, raised, raised_by, marked, finished, kept, gave_back, looked}
use Rattle.relax_core.specs.Views.{kept_half, new_half, joined}
use Rattle.relax_core.specs.State.{State, mark_of}

-- the state with one view changed
abbrev pub with_view : State → ℕ → View → State
with_view state seat view = record state { views = slice_set state.views seat view }

-- the view of a seat that isn't spent
abbrev pub live_view : List View → ℕ → Option View
live_view views seat =
    option_and_then (λ view. if view.share == 0 then None else Some view) (slice_get views seat)

-- where the view of a live seat allows an event, the state that it leads to
abbrev pub after_at : State → ℕ → (View → Bool) → (View → State) → Option State
after_at state seat may next =
    option_and_then (λ view. if may view then Some (next view) else None) (live_view state.views seat)

-- Relax: the head's label becomes the lesser of what it was and what the arc offers
abbrev pub relaxed : Graph → State → ℕ → View → State
relaxed graph state seat v =
    let head = (next_arc graph v.hand).head in
    let label = slice_index state.labels head in
    let offered = next_offer graph v.hand in
    record (with_view state seat (went_along (nat_lt offered label) head v)) {
      labels = slice_set state.labels head (min label offered);
    }

-- the state after an event, where it is enabled
abbrev pub after : Graph → State → Event → Option State
-- the mark is taken; if it was set, the seat, which held none, holds the vertex
after graph state (Take seat u) =
    after_at state seat (λ v. has_no_vertex v.hand && nat_lt u graph.n) (λ v.
    record (with_view state seat (taken (mark_of state.marks u) u v)) {
      marks = slice_set state.marks u false;
    })
-- the seat opens its vertex's row with the label that it finds
after graph state (Read seat) =
    after_at state seat (λ v. is_fresh v.hand) (λ v.
    with_view state seat
    (opened (slice_index state.labels (vertex_of v.hand)) (first_place graph.arcs (vertex_of v.hand)) v))
-- the seat goes along the next arc of its row
after graph state (Relax seat) =
    after_at state seat (λ v. is_open v.hand && nat_lt (place_of v.hand) (end_place graph.arcs (vertex_of v.hand)))
    (relaxed graph state seat)
-- the total gains one, for a second credit of a seat that owes a mark
after graph state (Raise seat) =
    after_at state seat (λ v. owes v.hand && (v.credits == 1)) (λ v.
    record (with_view state seat (raised v)) { total = state.total + 1 })
-- the total gains as many as the seat that owes a mark gains credits, at most 255
after graph state (RaiseBy seat count) =
    after_at state seat (λ v. owes v.hand && nat_le (v.credits + count) 255) (λ v.
    record (with_view state seat (raised_by count v)) { total = state.total + count })
-- the mark that is owed is set
after graph state (SetMark seat) =
    after_at state seat (λ v. owes v.hand && nat_le 2 v.credits) (λ v.
    record (with_view state seat (marked (mark_of state.marks (owed_of v.hand)) v)) {
      marks = slice_set state.marks (owed_of v.hand) true;
    })
-- at the row's end the credits leave the total, and the seat is idle
after graph state (Finish seat) =
    after_at state seat (λ v. is_open v.hand && (place_of v.hand == end_place graph.arcs (vertex_of v.hand))) (λ v.
    record (with_view state seat (finished v)) { total = state.total - v.credits })
-- at the row's end the credits stay with the seat, with room for one more
after graph state (Keep seat) =
    after_at state seat (λ v.
    is_open v.hand
    && ((place_of v.hand == end_place graph.arcs (vertex_of v.hand)) && nat_le v.credits 254))
    (λ v. with_view state seat (kept v))
-- the total loses the credits that a seat gives back of those that it kept
after graph state (Return seat count) =
    after_at state seat (λ v. is_kept v.hand && nat_le count v.credits) (λ v.
    record (with_view state seat (gave_back count v)) { total = state.total - count })
-- an idle seat looks at the total
after graph state (See seat) =
    after_at state seat (λ v. is_idle v.hand) (λ v. with_view state seat (looked (state.total == 0) v))
-- a new seat, the last, has half the share of an idle one, rounded down
after graph state (Split seat) =
    after_at state seat (λ v. is_idle v.hand && nat_le 2 v.share) (λ v.
    record state { views = slice_set state.views seat (kept_half v) ++ new_half v ∷ [] })
-- an idle seat has both shares, and another idle one is spent
after graph state (Join seat other) =
    if seat == other
    then None
    else option_and_then (λ v.
    after_at state other (λ w. is_idle v.hand && is_idle w.hand) (λ w.
    with_view (with_view state seat (joined v w)) other (idle_view 0)))
    (live_view state.views seat)

-- true and the state after the event, if it is enabled; else false and no change
abbrev pub IsDone : Graph → State → Event → Bool → State → Type 0
IsDone graph old event done new =
    MatchBool done (after graph old event ≡ Some new)
    ((after graph old event ≡ None) × (new ≡ old))

-- a Split alone takes memory
abbrev pub IsSplit : Event → Type 0
IsSplit (Split seat) = Unit {0}
IsSplit (Take seat u) = ⊥
IsSplit (Read seat) = ⊥
IsSplit (Relax seat) = ⊥
IsSplit (Raise seat) = ⊥
IsSplit (RaiseBy seat count) = ⊥
IsSplit (SetMark seat) = ⊥
IsSplit (Finish seat) = ⊥
IsSplit (Keep seat) = ⊥
IsSplit (Return seat count) = ⊥
IsSplit (See seat) = ⊥
IsSplit (Join seat other) = ⊥

-- a run: each event is enabled after those before it
abbrev pub Run : Graph → State → List Event → State → Type 0
Run graph state [] last = state ≡ last
Run graph state (event ∷ events) last =
    (next : State)
    × (after graph state event ≡ Some next)
    × Run graph next events last
