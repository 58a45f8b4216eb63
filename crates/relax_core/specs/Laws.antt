-- The law of each event: lawful before, lawful after. Each speaks of one seat s, whose view v becomes what the event
-- makes of it, and of labels and marks that change only as the event says. So a law serves a core, and words that
-- change one at a time.
use Rattle.std.specs.Prelude.{◌≡◌, ◌≢◌, ℕ, ◌+◌, ◌*◌, ◌<◌, ◌≤◌, ◌==◌, nat_lt, min, Bool, true, false}
use Rattle.std.specs.Prelude.{Some, List, [], ◌∷◌, ◌++◌, slice_set, All}
use Rattle.route_walks.specs.declared.graph.Seed.{Seed}
use Rattle.route_walks.specs.declared.graph.TheConstants.{INF}
use Rattle.route_walks.specs.Walk.{IsAttained}
use Rattle.route_walks.specs.Label.{AreCapped, AreLeast, IsSettled}
use Rattle.csr_graph.specs.Graph.{Graph, IsInRows, first_place}
use Rattle.relax_core.specs.declared.events.Event.{Event}
use Rattle.relax_core.specs.declared.views.Hand.TheVariants.{Idle, Kept}
use Rattle.relax_core.specs.declared.views.View.{View}
use Rattle.relax_core.specs.declared.views.TheConstants.{SHARES}
use Rattle.relax_core.specs.Views.{HasView, IsFresh, IsOpen, Owes, HasNextArc, IsAtRowEnd, vertex_of}
use Rattle.relax_core.specs.Views.{has_no_vertex, owed_of, next_arc, next_offer, idle_view, taken, opened}
use Rattle.relax_core.specs.Views.{went_along, raised, raised_by, marked, finished, kept, gave_back, looked}
use Rattle.relax_core.specs.Views.{kept_half, new_half, joined}
use Rattle.relax_core.specs.Lawful.{Covers, Account}
use Rattle.relax_core.specs.State.{State, IsLawful}
use Rattle.relax_core.specs.Events.{after, Run}
use Rattle.relax_core.specs.Runs.{IsReached, StopsAt}

-- two functions from vertices agree but at u
abbrev pub AgreeBut : {X : Type 0} → ℕ → (ℕ → X) → (ℕ → X) → Type 0
AgreeBut u old new = (x : ℕ) → x ≢ u → new x ≡ old x

-- ---- cover

-- Take: what the seat holds now was marked before
abbrev pub TakingKeepsCover : Type 0
TakingKeepsCover =
    (graph : Graph) (seeds : List Seed) (label : ℕ → ℕ) (mark mark' : ℕ → Bool) (views : List View) (s u : ℕ) (v : View)
    → Covers graph seeds label mark views → HasView views s v
    → has_no_vertex v.hand ≡ true → u < graph.n → AgreeBut u mark mark'
    → Covers graph seeds label mark' (slice_set views s (taken (mark u) u v))

-- Read: the whole row is to be relaxed with the label that was read
abbrev pub ReadingKeepsCover : Type 0
ReadingKeepsCover =
    (graph : Graph) (seeds : List Seed) (label : ℕ → ℕ) (mark : ℕ → Bool) (views : List View) (s : ℕ) (v : View)
    → IsInRows graph → Covers graph seeds label mark views → HasView views s v → IsFresh v.hand
    → Covers graph seeds label mark
    (slice_set views s (opened (label (vertex_of v.hand)) (first_place graph.arcs (vertex_of v.hand)) v))

-- Relax: the head's label becomes the lesser of what it was and what is offered, and the seat owes a mark if it fell
abbrev pub RelaxingKeepsCover : Type 0
RelaxingKeepsCover =
    (graph : Graph) (seeds : List Seed) (label label' : ℕ → ℕ) (mark : ℕ → Bool) (views : List View) (s : ℕ) (v : View)
    → IsInRows graph → Covers graph seeds label mark views → HasView views s v
    → IsOpen v.hand → HasNextArc graph v.hand
    → label' (next_arc graph v.hand).head ≡ min (label (next_arc graph v.hand).head) (next_offer graph v.hand)
    → AgreeBut (next_arc graph v.hand).head label label'
    → Covers graph seeds label' mark (slice_set views s
    (went_along (nat_lt (next_offer graph v.hand) (label (next_arc graph v.hand).head)) (next_arc graph v.hand).head v))

-- Raise and See: the hand stays
abbrev pub StayingKeepsCover : Type 0
StayingKeepsCover =
    (graph : Graph) (seeds : List Seed) (label : ℕ → ℕ) (mark : ℕ → Bool) (views : List View) (s : ℕ) (v w : View)
    → Covers graph seeds label mark views → HasView views s v
    → w.hand ≡ v.hand → w.share ≡ v.share
    → Covers graph seeds label mark (slice_set views s w)

-- SetMark: the head that was owed a mark is marked
abbrev pub MarkingKeepsCover : Type 0
MarkingKeepsCover =
    (graph : Graph) (seeds : List Seed) (label : ℕ → ℕ) (mark mark' : ℕ → Bool) (views : List View) (s : ℕ) (v : View)
    → Covers graph seeds label mark views → HasView views s v
    → Owes v.hand → mark' (owed_of v.hand) ≡ true → AgreeBut (owed_of v.hand) mark mark'
    → Covers graph seeds label mark' (slice_set views s (marked (mark (owed_of v.hand)) v))

-- Finish: the row is done
abbrev pub FinishingKeepsCover : Type 0
FinishingKeepsCover =
    (graph : Graph) (seeds : List Seed) (label : ℕ → ℕ) (mark : ℕ → Bool) (views : List View) (s : ℕ) (v : View)
    → IsInRows graph → Covers graph seeds label mark views → HasView views s v
    → IsOpen v.hand → IsAtRowEnd graph v.hand
    → Covers graph seeds label mark (slice_set views s (finished v))

-- Keep: the row is done
abbrev pub KeepingKeepsCover : Type 0
KeepingKeepsCover =
    (graph : Graph) (seeds : List Seed) (label : ℕ → ℕ) (mark : ℕ → Bool) (views : List View) (s : ℕ) (v : View)
    → IsInRows graph → Covers graph seeds label mark views → HasView views s v
    → IsOpen v.hand → IsAtRowEnd graph v.hand
    → Covers graph seeds label mark (slice_set views s (kept v))

-- Return: no arc was held
abbrev pub ReturningKeepsCover : Type 0
ReturningKeepsCover =
    (graph : Graph) (seeds : List Seed) (label : ℕ → ℕ) (mark : ℕ → Bool) (views : List View) (s count : ℕ) (v : View)
    → Covers graph seeds label mark views → HasView views s v → v.hand ≡ Kept
    → Covers graph seeds label mark (slice_set views s (gave_back count v))

-- Split: an idle view becomes two, with the same share together
abbrev pub SplittingKeepsCover : Type 0
SplittingKeepsCover =
    (graph : Graph) (seeds : List Seed) (label : ℕ → ℕ) (mark : ℕ → Bool) (views : List View) (s : ℕ) (v : View)
    → Covers graph seeds label mark views → HasView views s v → v.hand ≡ Idle
    → Covers graph seeds label mark (slice_set views s (kept_half v) ++ new_half v ∷ [])

-- Join: one of two idle views has the share of both, and the other is spent
abbrev pub JoiningKeepsCover : Type 0
JoiningKeepsCover =
    (graph : Graph) (seeds : List Seed) (label : ℕ → ℕ) (mark : ℕ → Bool) (views : List View) (s t : ℕ) (v w : View)
    → Covers graph seeds label mark views → HasView views s v → HasView views t w → s ≢ t
    → v.hand ≡ Idle → w.hand ≡ Idle
    → Covers graph seeds label mark (slice_set (slice_set views s (joined v w)) t (idle_view 0))

-- ---- account

-- Take: the credit of the mark goes to the seat
abbrev pub TakingKeepsAccount : Type 0
TakingKeepsAccount =
    (n : ℕ) (mark mark' : ℕ → Bool) (total : ℕ) (views : List View) (s u : ℕ) (v : View)
    → Account n mark total views → HasView views s v
    → has_no_vertex v.hand ≡ true → u < n → mark' u ≡ false → AgreeBut u mark mark'
    → Account n mark' total (slice_set views s (taken (mark u) u v))

-- Read and Relax: nothing of the account changes
abbrev pub ReadingKeepsAccount : Type 0
ReadingKeepsAccount =
    (n : ℕ) (mark : ℕ → Bool) (total : ℕ) (views : List View) (s d k : ℕ) (v : View)
    → Account n mark total views → HasView views s v → IsFresh v.hand
    → Account n mark total (slice_set views s (opened d k v))

abbrev pub RelaxingKeepsAccount : Type 0
RelaxingKeepsAccount =
    (n : ℕ) (mark : ℕ → Bool) (total : ℕ) (views : List View) (s : ℕ) (fell : Bool) (head : ℕ) (v : View)
    → Account n mark total views → HasView views s v → IsOpen v.hand
    → Account n mark total (slice_set views s (went_along fell head v))

-- Raise: the total gains what the seat gains
abbrev pub RaisingKeepsAccount : Type 0
RaisingKeepsAccount =
    (n : ℕ) (mark : ℕ → Bool) (total : ℕ) (views : List View) (s : ℕ) (v : View)
    → Account n mark total views → HasView views s v → Owes v.hand → v.credits ≡ 1
    → Account n mark (total + 1) (slice_set views s (raised v))

-- RaiseBy: the total gains what the seat gains
abbrev pub RaisingByKeepsAccount : Type 0
RaisingByKeepsAccount =
    (n : ℕ) (mark : ℕ → Bool) (total : ℕ) (views : List View) (s count : ℕ) (v : View)
    → Account n mark total views → HasView views s v → Owes v.hand → v.credits + count ≤ 255
    → Account n mark (total + count) (slice_set views s (raised_by count v))

-- SetMark: one of the credits goes to the mark, unless it was set before
abbrev pub MarkingKeepsAccount : Type 0
MarkingKeepsAccount =
    (n : ℕ) (mark mark' : ℕ → Bool) (total : ℕ) (views : List View) (s : ℕ) (v : View)
    → Account n mark total views → HasView views s v
    → Owes v.hand → 2 ≤ v.credits → owed_of v.hand < n
    → mark' (owed_of v.hand) ≡ true → AgreeBut (owed_of v.hand) mark mark'
    → Account n mark' total (slice_set views s (marked (mark (owed_of v.hand)) v))

-- Finish: the total loses the seat's credits
abbrev pub FinishingKeepsAccount : Type 0
FinishingKeepsAccount =
    (n : ℕ) (mark : ℕ → Bool) (total total' : ℕ) (views : List View) (s : ℕ) (v : View)
    → Account n mark total views → HasView views s v → total' + v.credits ≡ total
    → Account n mark total' (slice_set views s (finished v))

-- Keep: nothing of the account changes
abbrev pub KeepingKeepsAccount : Type 0
KeepingKeepsAccount =
    (n : ℕ) (mark : ℕ → Bool) (total : ℕ) (views : List View) (s : ℕ) (v : View)
    → Account n mark total views → HasView views s v → IsOpen v.hand → v.credits ≤ 254
    → Account n mark total (slice_set views s (kept v))

-- Return: the total loses what the seat gives back
abbrev pub ReturningKeepsAccount : Type 0
ReturningKeepsAccount =
    (n : ℕ) (mark : ℕ → Bool) (total total' : ℕ) (views : List View) (s count : ℕ) (v : View)
    → Account n mark total views → HasView views s v → v.hand ≡ Kept → count ≤ v.credits → total' + count ≡ total
    → Account n mark total' (slice_set views s (gave_back count v))

-- See: the seat saw only where the total is 0
abbrev pub SeeingKeepsAccount : Type 0
SeeingKeepsAccount =
    (n : ℕ) (mark : ℕ → Bool) (total : ℕ) (views : List View) (s : ℕ) (v : View)
    → Account n mark total views → HasView views s v
    → Account n mark total (slice_set views s (looked (total == 0) v))

-- Split: the new seat has no credit and saw nothing
abbrev pub SplittingKeepsAccount : Type 0
SplittingKeepsAccount =
    (n : ℕ) (mark : ℕ → Bool) (total : ℕ) (views : List View) (s : ℕ) (v : View)
    → Account n mark total views → HasView views s v → v.hand ≡ Idle
    → Account n mark total (slice_set views s (kept_half v) ++ new_half v ∷ [])

-- Join: the seat saw only where either saw
abbrev pub JoiningKeepsAccount : Type 0
JoiningKeepsAccount =
    (n : ℕ) (mark : ℕ → Bool) (total : ℕ) (views : List View) (s t : ℕ) (v w : View)
    → Account n mark total views → HasView views s v → HasView views t w → s ≢ t
    → v.hand ≡ Idle → w.hand ≡ Idle
    → Account n mark total (slice_set (slice_set views s (joined v w)) t (idle_view 0))

-- ---- what follows

-- a label that a seat lowers is attained
abbrev pub LoweringAttains : Type 0
LoweringAttains =
    (graph : Graph) (seeds : List Seed) (label : ℕ → ℕ) (mark : ℕ → Bool) (views : List View) (s : ℕ) (v : View)
    → IsInRows graph → Covers graph seeds label mark views → HasView views s v
    → IsOpen v.hand → HasNextArc graph v.hand → next_offer graph v.hand < INF
    → IsAttained graph.arcs seeds (next_arc graph v.hand).head (next_offer graph v.hand)

-- the total is at most a mark for each vertex and 255 credits for each share
abbrev pub TotalIsBounded : Type 0
TotalIsBounded =
    (graph : Graph) (seeds : List Seed) (label : ℕ → ℕ) (mark : ℕ → Bool) (total : ℕ) (views : List View)
    → Covers graph seeds label mark views → Account graph.n mark total views
    → total ≤ graph.n + 255 * SHARES

-- where nothing is marked and every view is idle, labels are settled
abbrev pub QuietIsSettled : Type 0
QuietIsSettled =
    (graph : Graph) (seeds : List Seed) (label : ℕ → ℕ) (mark : ℕ → Bool) (views : List View)
    → IsInRows graph → Covers graph seeds label mark views
    → ((u : ℕ) → u < graph.n → mark u ≡ false) → All (λ view. view.hand ≡ Idle) views
    → IsSettled graph.arcs seeds label

-- at a total of 0 labels are least
abbrev pub ZeroIsLeast : Type 0
ZeroIsLeast =
    (graph : Graph) (seeds : List Seed) (label : ℕ → ℕ) (mark : ℕ → Bool) (views : List View)
    → IsInRows graph → AreCapped graph.n label
    → Covers graph seeds label mark views → Account graph.n mark 0 views
    → AreLeast graph.n graph.arcs seeds label

-- ---- whole states

-- each event leads from a lawful state to a lawful state
abbrev pub EventsKeepLawful : Type 0
EventsKeepLawful =
    (graph : Graph) (seeds : List Seed) (state next : State) (event : Event)
    → IsLawful graph seeds state → after graph state event ≡ Some next → IsLawful graph seeds next

-- and so does each run
abbrev pub RunsKeepLawful : Type 0
RunsKeepLawful =
    (graph : Graph) (seeds : List Seed) (state last : State) (events : List Event)
    → IsLawful graph seeds state → Run graph state events last → IsLawful graph seeds last

-- a list of events that is a run from the opening doesn't stop
abbrev pub RunsDontStop : Type 0
RunsDontStop =
    (graph : Graph) (seeds : List Seed) (last : State) (events : List Event) (i : ℕ)
    → IsReached graph seeds events last → StopsAt graph seeds events i → ⊥

-- and one that stops does so at one place
abbrev pub StopsOnce : Type 0
StopsOnce =
    (graph : Graph) (seeds : List Seed) (events : List Event) (i j : ℕ)
    → StopsAt graph seeds events i → StopsAt graph seeds events j → i ≡ j
