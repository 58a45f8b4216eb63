-- A list of events is a run from the opening or stops, at one place.
use Rattle.std.proofs.Common.{◌≡◌, ◌∙◌, sym, ap, ℕ, zero, suc, ◌<◌, ◌≤◌, List, [], ◌∷◌, Bool, true}
use Rattle.std.proofs.Common.{false, inl, inr, Some, None, length, take, arith}
use Rattle.std.specs.Prelude.{slice_get, slice_index}
use Rattle.std.specs.Cmp.{both_ways}
use Rattle.std.proofs.lemmas.Bool.{cases_Bool}
use Rattle.std.proofs.lemmas.List.{ext_get_or, get_or-take, length-take, take-take}
use Rattle.std.proofs.lemmas.Option.{none-some, same_Some, get_or_from_slice_get, slice_get_within, slice_get-get_or}
use Rattle.route_walks.specs.declared.graph.Seed.{Seed}
use Rattle.csr_graph.specs.Graph.{Graph}
use Rattle.relax_core.specs.declared.events.Event.{Event}
use Rattle.relax_core.specs.State.{State, IsOpening, IsStarted, mark_of}
use Rattle.relax_core.specs.Events.{after, Run}
use Rattle.relax_core.specs.Runs.{StopsAt}
use Rattle.relax_core.specs.Laws.{RunsDontStop, StopsOnce}

-- ---- there is one opening

-- what is marked in one of two starts of the same seeds is marked in the other
mark_also : {labels labels' : List ℕ} {marks marks' : List Bool} {seeds : List Seed} (u : ℕ)
    → IsStarted labels marks seeds → IsStarted labels' marks' seeds → u < length labels
    → mark_of marks u ≡ true → mark_of marks' u ≡ true
mark_also u was was' lt marked =
    let seed = was.starts u lt marked in
    rw (seed.3, seed.4.0) at (was'.seeded seed.0 seed.1 seed.2)

-- and its label is no higher there
label_below : {labels labels' : List ℕ} {marks marks' : List Bool} {seeds : List Seed} (u : ℕ)
    → IsStarted labels marks seeds → IsStarted labels' marks' seeds → u < length labels → u < length labels'
    → slice_index labels' u ≤ slice_index labels u
label_below {marks} u was was' lt lt' =
    elim (cases_Bool (mark_of marks u)) [
      | inl marked ↦
          let seed = was.starts u lt marked in
          rw (seed.3, seed.4.0, seed.4.1) at (was'.least seed.0 seed.1 seed.2)
      | inr unmarked ↦ omega (arith, was.others u lt unmarked, was'.capped u lt')
    ]

-- two openings of the same graph and seeds are the same
one_opening : (graph : Graph) (seeds : List Seed) (one other : State)
    → IsOpening graph seeds one → IsOpening graph seeds other → one ≡ other
one_opening graph seeds one other was was' =
    let count : length one.labels ≡ length other.labels = was.labels ∙ sym was'.labels in
    let labels : one.labels ≡ other.labels =
    ext_get_or 0 one.labels other.labels count (λ u lt.
    let below = label_below u was.started was'.started lt (omega arith) in
    omega (arith, label_below u was'.started was.started (omega arith) lt)) in
    let marks : one.marks ≡ other.marks =
    ext_get_or false one.marks other.marks (was.marks ∙ sym was'.marks) (λ u lt.
    both_ways (mark_of one.marks u) (mark_of other.marks u)
    (mark_also u was.started was'.started (omega (arith, was.labels, was.marks)))
    (mark_also u was'.started was.started (omega (arith, was'.labels, was.marks)))) in
    let total : one.total ≡ other.total = rw (was.total, marks) (sym was'.total) in
    let views = was.views ∙ sym was'.views in
    λ i. record { labels = labels i; marks = marks i; total = total i; views = views i }

-- ---- runs

-- the event after the first i of a run is enabled there
next_enabled : (graph : Graph) (state middle last : State) (events : List Event) (i : ℕ) (event : Event)
    → Run graph state events last → Run graph state (take i events) middle → slice_get events i ≡ Some event
    → after graph middle event ≡ None → ⊥
next_enabled graph state middle last [] i event run front at refused = none-some event at
next_enabled graph state middle last (first ∷ events) zero event run front at refused =
    none-some run.0 (sym (rw (← same_Some first event at, ← front) at refused) ∙ run.1)
next_enabled graph state middle last (first ∷ events) (suc i) event run front at refused =
    next_enabled graph run.0 middle last events i event run.2
    (rw (same_Some front.0 run.0 (sym front.1 ∙ run.1)) at front.2) at refused

pub runs_dont_stop : RunsDontStop
runs_dont_stop graph seeds last events i run stop =
    let same = one_opening graph seeds stop.reached.opening run.opening stop.reached.opens run.opens in
    next_enabled graph run.opening stop.state last events i stop.event run.run
    (rw same at stop.reached.run) stop.is stop.refused

-- the first j of the events go on after the first i
not_before : (graph : Graph) (seeds : List Seed) (events : List Event) (i j : ℕ)
    → StopsAt graph seeds events i → StopsAt graph seeds events j → i < j → ⊥
not_before graph seeds events i j stop later less =
    let within = slice_get_within events i stop.event stop.is in
    let shorter : i < length (take j events) = omega (arith, within, length-take j events) in
    runs_dont_stop graph seeds later.state (take j events) i later.reached record {
      state = stop.state;
      reached = rw (take-take i j events (omega arith)) stop.reached;
      event = stop.event;
      is =
          slice_get-get_or (take j events) i stop.event shorter
          ∙ ap Some
          (get_or-take j events i stop.event less ∙ get_or_from_slice_get events i stop.event stop.event stop.is);
      refused = stop.refused;
    }

pub stops_once : StopsOnce
stops_once graph seeds events i j stop other =
    let below : i < j → ⊥ = not_before graph seeds events i j stop other in
    let above : j < i → ⊥ = not_before graph seeds events j i other stop in
    omega arith
