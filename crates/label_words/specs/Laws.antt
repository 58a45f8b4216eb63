-- Each call's one operation on one word is the event of its name: if the words hold a state of the core, then after it
-- they hold the state after the event, and the seat's view is the event's. And what the rule of the words keeps is a
-- lawful core.
use Rattle.std.specs.Prelude.{◌≡◌, ◌≢◌, ℕ, ◌+◌, ◌-◌, ◌<◌, ◌≤◌, ◌==◌, nat_lt, min, true, false}
use Rattle.std.specs.Prelude.{All, Some, List, [], ◌∷◌, ◌++◌, length, slice_index, slice_set}
use Rattle.route_walks.specs.declared.graph.Seed.{Seed}
use Rattle.route_walks.specs.Label.{AreLeast, IsLeast}
use Rattle.route_walks.specs.Limit.{AreLeastLabelsUpTo, AreLeastToward}
use Rattle.route_walks.specs.Walk.{AreSeeds}
use Rattle.route_walks.specs.Operators.{seeds_of}
use Rattle.csr_graph.specs.Graph.{Graph, IsInRows}
use Rattle.csr_graph.specs.Bounds.{AreBounds}
use Rattle.csr_graph.specs.declared.bounds.Bounds.{Bounds}
use Rattle.relax_core.specs.declared.events.Event.{Event}
use Rattle.relax_core.specs.declared.events.Event.TheVariants.{Take, Read, Relax, Raise, RaiseBy, SetMark}
use Rattle.relax_core.specs.declared.events.Event.TheVariants.{Finish, Keep, Return, See, Split, Join}
use Rattle.relax_core.specs.declared.views.Hand.TheVariants.{Idle, Kept}
use Rattle.relax_core.specs.Events.{after}
use Rattle.relax_core.specs.Views.{HasView, IsFresh, IsOpen, Owes, HasNextArc, IsAtRowEnd, has_no_vertex}
use Rattle.relax_core.specs.Views.{vertex_of, owed_of, next_arc, next_offer}
use Rattle.relax_core.specs.State.{State, IsLawful, mark_of}
use Rattle.label_words.specs.declared.known.Known.{Known}
use Rattle.label_words.specs.Layout.{label_word, mark_word, total_of, label_of}
use Rattle.label_words.specs.Rule.{views_of, AreLawful, IsLaid}
use Rattle.label_words.specs.Known.{after_take, after_read, after_relax, after_raise, after_raise_by}
use Rattle.label_words.specs.Known.{after_set_mark, after_finish, after_keep, after_give_back, after_see}
use Rattle.label_words.specs.Known.{left_half, right_half, both_known, gone}
use Rattle.label_words.specs.declared.closed.Closed.{Closed}
use Rattle.label_words.specs.Closed.{IsEnd, AreNoHigher, closed_labels}
use Rattle.label_words.specs.Paused.{Rest, IsPause, AreMarkedFar, AreMarkedPast, AreUnmarkedBelow}
use Rattle.label_words.specs.Seats.{IsReady}

-- the words hold a state, in which seat s has the view that it knows
pub record WordsHold (state : State) (words : List ℕ) (s : ℕ) (seat : Known) : Type 0 where
  pub labels : length state.labels ≡ seat.graph.n
  pub marks : length state.marks ≡ seat.graph.n
  pub laid : IsLaid state seat.graph.n words
  pub has : HasView state.views s seat.view
  pub ready : IsReady seat

-- to write x into word i and to make of seat s the seat w is the event
abbrev pub IsTheEvent : Event → State → List ℕ → ℕ → Known → ℕ → ℕ → Known → Type 0
IsTheEvent event state words s seat i x w =
    (next : State) × (after seat.graph state event ≡ Some next)
    × IsLaid next seat.graph.n (slice_set words i x)
    × (next.views ≡ slice_set state.views s w.view)

-- take: a swap of the vertex's mark to 0
abbrev pub TakeIsItsEvent : Type 0
TakeIsItsEvent =
    (state : State) (words : List ℕ) (s u : ℕ) (seat : Known)
    → WordsHold state words s seat
    → has_no_vertex seat.view.hand ≡ true
    → u < seat.graph.n
    → IsTheEvent (Take s u) state words s seat (mark_word u) 0
    (after_take (nat_lt 0 (slice_index words (mark_word u))) u seat)

-- read: a load of the vertex's label
abbrev pub ReadIsItsEvent : Type 0
ReadIsItsEvent =
    (state : State) (words : List ℕ) (s u : ℕ) (seat : Known)
    → WordsHold state words s seat
    → IsFresh seat.view.hand
    → vertex_of seat.view.hand ≡ u
    → IsTheEvent (Read s) state words s seat (label_word u) (label_of words u)
    (after_read (label_of words u) seat)

-- relax: a `fetch_min` of the head's label with what the arc offers
abbrev pub RelaxIsItsEvent : Type 0
RelaxIsItsEvent =
    (state : State) (words : List ℕ) (s head : ℕ) (seat : Known)
    → WordsHold state words s seat
    → IsOpen seat.view.hand
    → HasNextArc seat.graph seat.view.hand
    → (next_arc seat.graph seat.view.hand).head ≡ head
    → IsTheEvent (Relax s) state words s seat
    (label_word head) (min (label_of words head) (next_offer seat.graph seat.view.hand))
    (after_relax (nat_lt (next_offer seat.graph seat.view.hand) (label_of words head)) seat)

-- raise: a `fetch_add` of 1 to the total
abbrev pub RaiseIsItsEvent : Type 0
RaiseIsItsEvent =
    (state : State) (words : List ℕ) (s : ℕ) (seat : Known)
    → WordsHold state words s seat
    → Owes seat.view.hand
    → seat.view.credits ≡ 1
    → IsTheEvent (Raise s) state words s seat 0 (total_of words + 1) (after_raise seat)

-- `raise_by`: a `fetch_add` of so many to the total
abbrev pub RaiseByIsItsEvent : Type 0
RaiseByIsItsEvent =
    (state : State) (words : List ℕ) (s count : ℕ) (seat : Known)
    → WordsHold state words s seat
    → Owes seat.view.hand
    → seat.view.credits + count ≤ 255
    → IsTheEvent (RaiseBy s count) state words s seat 0 (total_of words + count) (after_raise_by count seat)

-- `set_mark`: a swap of the owed mark to 1
abbrev pub SetMarkIsItsEvent : Type 0
SetMarkIsItsEvent =
    (state : State) (words : List ℕ) (s head : ℕ) (seat : Known)
    → WordsHold state words s seat
    → Owes seat.view.hand
    → 2 ≤ seat.view.credits
    → owed_of seat.view.hand ≡ head
    → IsTheEvent (SetMark s) state words s seat (mark_word head) 1
    (after_set_mark (nat_lt 0 (slice_index words (mark_word head))) seat)

-- finish: a `fetch_sub` of the credits from the total
abbrev pub FinishIsItsEvent : Type 0
FinishIsItsEvent =
    (state : State) (words : List ℕ) (s : ℕ) (seat : Known)
    → WordsHold state words s seat
    → IsOpen seat.view.hand
    → IsAtRowEnd seat.graph seat.view.hand
    → IsTheEvent (Finish s) state words s seat 0 (total_of words - seat.view.credits) (after_finish seat)

-- keep: a load of the total
abbrev pub KeepIsItsEvent : Type 0
KeepIsItsEvent =
    (state : State) (words : List ℕ) (s : ℕ) (seat : Known)
    → WordsHold state words s seat
    → IsOpen seat.view.hand
    → IsAtRowEnd seat.graph seat.view.hand
    → seat.view.credits ≤ 254
    → IsTheEvent (Keep s) state words s seat 0 (total_of words) (after_keep seat)

-- `give_back`: a `fetch_sub` of so many from the total
abbrev pub ReturnIsItsEvent : Type 0
ReturnIsItsEvent =
    (state : State) (words : List ℕ) (s count : ℕ) (seat : Known)
    → WordsHold state words s seat
    → seat.view.hand ≡ Kept
    → count ≤ seat.view.credits
    → IsTheEvent (Return s count) state words s seat 0 (total_of words - count) (after_give_back count seat)

-- see: a load of the total
abbrev pub SeeIsItsEvent : Type 0
SeeIsItsEvent =
    (state : State) (words : List ℕ) (s : ℕ) (seat : Known)
    → WordsHold state words s seat
    → seat.view.hand ≡ Idle
    → IsTheEvent (See s) state words s seat 0 (total_of words) (after_see (total_of words == 0) seat)

-- split: no word changes, and the new seat is the last
abbrev pub SplitIsItsEvent : Type 0
SplitIsItsEvent =
    (state : State) (words : List ℕ) (s : ℕ) (seat : Known)
    → WordsHold state words s seat
    → seat.view.hand ≡ Idle
    → 2 ≤ seat.view.share
    → after seat.graph state (Split s)
    ≡ Some (record state {
      views = slice_set state.views s (left_half seat).view ++ (right_half seat).view ∷ [];
    })

-- join: no word changes, and the other seat is spent
abbrev pub JoinIsItsEvent : Type 0
JoinIsItsEvent =
    (state : State) (words : List ℕ) (s t : ℕ) (seat other : Known)
    → WordsHold state words s seat
    → WordsHold state words t other
    → s ≢ t
    → seat.view.hand ≡ Idle
    → other.view.hand ≡ Idle
    → after seat.graph state (Join s t)
    ≡ Some (record state {
      views = slice_set (slice_set state.views s (both_known seat other).view) t gone.view;
    })

-- what the rule keeps is a lawful core: the words hold one state with the views of all seats, and it is lawful
abbrev pub LawfulWordsHoldACore : Type 0
LawfulWordsHoldACore =
    (graph : Graph) (seeds : List Seed) (words : List ℕ) (seats : List Known)
    → AreLawful graph seeds words seats
    → (state : State) × IsLawful graph seeds state × IsLaid state graph.n words × (state.views ≡ views_of seats)
    × ((other : State) → length other.labels ≡ graph.n → length other.marks ≡ graph.n
    → IsLaid other graph.n words → other.views ≡ views_of seats → other ≡ state)

-- a pause in which nothing is marked is no pause: its labels are least
abbrev pub UnmarkedPauseIsLeast : Type 0
UnmarkedPauseIsLeast =
    (graph : Graph) (seeds : List Seed) (rest : Rest)
    → IsInRows graph
    → IsPause graph seeds rest
    → ((v : ℕ) → v < graph.n → mark_of rest.marks v ≡ false)
    → AreLeast graph.n graph.arcs seeds (slice_index rest.labels)

-- a run from a pause ends as a run from the pause's own seeds may, and no label rises
abbrev pub ResumedRunsEndAlike : Type 0
ResumedRunsEndAlike =
    (graph : Graph) (seeds : List Seed) (rest : Rest) (closed : Closed)
    → AreSeeds graph.n seeds
    → IsPause graph seeds rest
    → IsEnd graph (seeds_of rest.labels) closed
    → IsEnd graph seeds closed × AreNoHigher (closed_labels closed) rest.labels

-- a pause in which no vertex with a label below a limit is marked is least up to the limit
abbrev pub PausesAreLeastUpTo : Type 0
PausesAreLeastUpTo =
    (limit : ℕ) (graph : Graph) (seeds : List Seed) (rest : Rest)
    → IsInRows graph
    → IsPause graph seeds rest
    → AreUnmarkedBelow limit rest
    → AreLeastLabelsUpTo limit graph.n graph.arcs seeds rest.labels

-- a pause from whose marked vertices each walk to t costs at least a limit has labels that are least up to the limit on
-- the way to t
abbrev pub PausesAreLeastToward : Type 0
PausesAreLeastToward =
    (limit : ℕ) (graph : Graph) (seeds : List Seed) (t : ℕ) (rest : Rest)
    → IsInRows graph
    → IsPause graph seeds rest
    → AreMarkedPast limit graph t rest
    → AreLeastToward limit graph.n graph.arcs seeds t (slice_index rest.labels)

-- a pause whose marked vertices are far from the targets of bounds of its graph has least labels of the targets, if a
-- limit is at least these labels
abbrev pub FarPausesAreLeast : Type 0
FarPausesAreLeast =
    (limit : ℕ) (graph : Graph) (seeds : List Seed) (bounds : Bounds) (rest : Rest)
    → IsInRows graph
    → IsPause graph seeds rest
    → AreBounds graph bounds
    → AreMarkedFar limit bounds rest
    → All (λ t. t < graph.n) bounds.targets.now
    → All (λ t. slice_index rest.labels t ≤ limit) bounds.targets.now
    → All (λ t. IsLeast graph.arcs seeds t (slice_index rest.labels t)) bounds.targets.now
