-- What a view holds, what each event makes of it, and what a lawful view may hold.
use Rattle.std.specs.Prelude.{◌≡◌, ◌≢◌, ℕ, ◌+◌, ◌-◌, ◌/◌, ◌<◌, ◌≤◌, ◌==◌, ◌⊎◌, min, Bool, true, false}
use Rattle.std.specs.Prelude.{◌||◌, if◌then◌else◌, List, Some, slice_get, slice_index_or}
use Rattle.route_walks.specs.declared.graph.ArcRec.{ArcRec}
use Rattle.route_walks.specs.declared.graph.Seed.{Seed}
use Rattle.route_walks.specs.declared.graph.TheConstants.{INF}
use Rattle.route_walks.specs.Walk.{IsAttained}
use Rattle.route_walks.specs.Label.{offer}
use Rattle.csr_graph.specs.Graph.{Graph, first_place, end_place}
use Rattle.relax_core.specs.declared.views.Hand.{Hand}
use Rattle.relax_core.specs.declared.views.Hand.TheVariants.{Idle, Kept, Fresh, Open, Owe}
use Rattle.relax_core.specs.declared.views.View.{View}
use Rattle.relax_core.specs.declared.views.TheConstants.{SHARES}

-- ---- hands

-- the vertex that a hand is about
abbrev pub vertex_of : Hand → ℕ
vertex_of Idle = 0
vertex_of Kept = 0
vertex_of (Fresh u) = u
vertex_of (Open u d k) = u
vertex_of (Owe u d k head) = u

-- the label that a hand relaxes with
abbrev pub read_of : Hand → ℕ
read_of Idle = 0
read_of Kept = 0
read_of (Fresh u) = 0
read_of (Open u d k) = d
read_of (Owe u d k head) = d

-- the place of the arc that a hand relaxes next
abbrev pub place_of : Hand → ℕ
place_of Idle = 0
place_of Kept = 0
place_of (Fresh u) = 0
place_of (Open u d k) = k
place_of (Owe u d k head) = k

-- the vertex that a hand owes a mark
abbrev pub owed_of : Hand → ℕ
owed_of Idle = 0
owed_of Kept = 0
owed_of (Fresh u) = 0
owed_of (Open u d k) = 0
owed_of (Owe u d k head) = head

-- the hand is fresh, open, or owes a mark
abbrev pub IsFresh : Hand → Type 0
IsFresh hand = hand ≡ Fresh (vertex_of hand)

abbrev pub IsOpen : Hand → Type 0
IsOpen hand = hand ≡ Open (vertex_of hand) (read_of hand) (place_of hand)

abbrev pub Owes : Hand → Type 0
Owes hand = hand ≡ Owe (vertex_of hand) (read_of hand) (place_of hand) (owed_of hand)

-- the same as tests
abbrev pub is_idle : Hand → Bool
is_idle Idle = true
is_idle Kept = false
is_idle (Fresh u) = false
is_idle (Open u d k) = false
is_idle (Owe u d k head) = false

abbrev pub is_kept : Hand → Bool
is_kept Idle = false
is_kept Kept = true
is_kept (Fresh u) = false
is_kept (Open u d k) = false
is_kept (Owe u d k head) = false

-- nothing is held, or credits alone
abbrev pub has_no_vertex : Hand → Bool
has_no_vertex Idle = true
has_no_vertex Kept = true
has_no_vertex (Fresh u) = false
has_no_vertex (Open u d k) = false
has_no_vertex (Owe u d k head) = false

abbrev pub is_fresh : Hand → Bool
is_fresh Idle = false
is_fresh Kept = false
is_fresh (Fresh u) = true
is_fresh (Open u d k) = false
is_fresh (Owe u d k head) = false

abbrev pub is_open : Hand → Bool
is_open Idle = false
is_open Kept = false
is_open (Fresh u) = false
is_open (Open u d k) = true
is_open (Owe u d k head) = false

abbrev pub owes : Hand → Bool
owes Idle = false
owes Kept = false
owes (Fresh u) = false
owes (Open u d k) = false
owes (Owe u d k head) = true

-- ---- the row of a hand

abbrev pub no_arc : ArcRec
no_arc = record { tail = 0; head = 0; weight = 0 }

-- the arc that a hand relaxes next, and what it offers its head
abbrev pub next_arc : Graph → Hand → ArcRec
next_arc graph hand = slice_index_or graph.arcs (place_of hand) no_arc

abbrev pub next_offer : Graph → Hand → ℕ
next_offer graph hand = offer (read_of hand) (next_arc graph hand).weight

-- the row has another arc, or the hand is at its end
abbrev pub HasNextArc : Graph → Hand → Type 0
HasNextArc graph hand = place_of hand < end_place graph.arcs (vertex_of hand)

abbrev pub IsAtRowEnd : Graph → Hand → Type 0
IsAtRowEnd graph hand = place_of hand ≡ end_place graph.arcs (vertex_of hand)

-- ---- what each event makes of the view of its seat

-- an idle view, which saw nothing; one without a share is spent
abbrev pub idle_view : ℕ → View
idle_view share = record { hand = Idle; credits = 0; saw = false; share = share }

-- Take: a vertex that was marked is held, with one credit more, the mark's
abbrev pub taken : Bool → ℕ → View → View
taken was_marked u v = record v {
  hand = if was_marked then Fresh u else v.hand;
  credits = if was_marked then v.credits + 1 else v.credits;
}

-- Read: the row is open with the label that was read
abbrev pub opened : ℕ → ℕ → View → View
opened d k v = record v { hand = Open (vertex_of v.hand) d k }

-- Relax: the next arc is done; where its head's label fell, the head is owed a mark
abbrev pub went_along : Bool → ℕ → View → View
went_along fell head v = record v {
  hand =
      if fell
      then Owe (vertex_of v.hand) (read_of v.hand) (place_of v.hand + 1) head
      else Open (vertex_of v.hand) (read_of v.hand) (place_of v.hand + 1);
}

-- Raise: a second credit, for the mark that is owed
abbrev pub raised : View → View
raised v = record v { credits = 2 }

-- RaiseBy: so many credits more, for the mark that is owed and others
abbrev pub raised_by : ℕ → View → View
raised_by count v = record v { credits = v.credits + count }

-- SetMark: nothing is owed; one of the credits went to the mark, unless it was set before
abbrev pub marked : Bool → View → View
marked was_marked v = record v {
  hand = Open (vertex_of v.hand) (read_of v.hand) (place_of v.hand);
  credits = if was_marked then v.credits else v.credits - 1;
}

-- Finish: nothing is held
abbrev pub finished : View → View
finished v = record v { hand = Idle; credits = 0 }

-- Keep: the credits alone are held
abbrev pub kept : View → View
kept v = record v { hand = Kept }

-- Return: so many credits less; with none left nothing is held
abbrev pub gave_back : ℕ → View → View
gave_back count v = record v {
  hand = if v.credits == count then Idle else Kept;
  credits = v.credits - count;
}

-- See: the seat saw, if the total is 0
abbrev pub looked : Bool → View → View
looked zero v = record v { saw = v.saw || zero }

-- Split: the seat keeps the larger half of its share, and a new one has the other
abbrev pub kept_half : View → View
kept_half v = record v { share = v.share - v.share / 2 }

abbrev pub new_half : View → View
new_half v = idle_view (v.share / 2)

-- Join: both shares, which are never more than all, and what either saw
abbrev pub joined : View → View → View
joined v w = record v { saw = v.saw || w.saw; share = min (v.share + w.share) SHARES }

-- ---- views by seat

-- the view of seat s is v, and it isn't spent
pub record HasView (views : List View) (s : ℕ) (v : View) : Type 0 where
  pub here : slice_get views s ≡ Some v
  pub live : v.share ≢ 0

-- ---- lawful views

-- the hand holds the arc at place k: its tail is still to be read, or it is still to be relaxed with the tail's present
-- label, or the tail is still to be marked
abbrev pub HoldsArc : (ℕ → ℕ) → ℕ → ArcRec → Hand → Type 0
HoldsArc label k arc Idle = ⊥
HoldsArc label k arc Kept = ⊥
HoldsArc label k arc (Fresh u) = u ≡ arc.tail
HoldsArc label k arc (Open u d place) =
    (u ≡ arc.tail) × (d ≡ label u) × (place ≤ k)
HoldsArc label k arc (Owe u d place head) =
    (head ≡ arc.tail)
    ⊎ ((u ≡ arc.tail) × (d ≡ label u) × (place ≤ k))

-- a hand in the row of u: what it read of u was attained or INF, the label has not risen since, and its place is in the
-- row or right after
pub record IsInRow (graph : Graph) (seeds : List Seed) (label : ℕ → ℕ) (u d place : ℕ) : Type 0 where
  pub vertex : u < graph.n
  pub read : label u ≤ d
  pub attained : d < INF → IsAttained graph.arcs seeds u d
  pub from : first_place graph.arcs u ≤ place
  pub upto : place ≤ end_place graph.arcs u

-- a hand of a lawful core
abbrev pub IsHand : Graph → List Seed → (ℕ → ℕ) → Hand → Type 0
IsHand graph seeds label Idle = Unit {0}
IsHand graph seeds label Kept = Unit {0}
IsHand graph seeds label (Fresh u) = u < graph.n
IsHand graph seeds label (Open u d place) = IsInRow graph seeds label u d place
IsHand graph seeds label (Owe u d place head) =
    IsInRow graph seeds label u d place
    × (head < graph.n)

-- an idle hand has no credit, every other has 1 to 255; a kept one has room for one more
abbrev pub HasCredits : Hand → ℕ → Type 0
HasCredits Idle credits = credits ≡ 0
HasCredits Kept credits = (1 ≤ credits) × (credits ≤ 254)
HasCredits (Fresh u) credits = (1 ≤ credits) × (credits ≤ 255)
HasCredits (Open u d place) credits = (1 ≤ credits) × (credits ≤ 255)
HasCredits (Owe u d place head) credits = (1 ≤ credits) × (credits ≤ 255)
