-- What a seat knows, and what each call makes of it. A step finds a number in a word; the hand says of which vertex and
-- arc.
use Rattle.std.specs.Prelude.{◌≡◌, ℕ, ◌<◌, ◌≤◌, Bool, true, false, if◌then◌else◌, List, [], ◌∷◌, ◌++◌, All}
use Rattle.route_walks.specs.declared.graph.Seed.{Seed}
use Rattle.route_walks.specs.declared.graph.TheConstants.{INF}
use Rattle.route_walks.specs.Walk.{IsAttained}
use Rattle.csr_graph.specs.Graph.{Graph, first_place}
use Rattle.relax_core.specs.declared.views.Hand.{Hand}
use Rattle.relax_core.specs.declared.views.Hand.TheVariants as hand
use Rattle.relax_core.specs.declared.views.TheConstants.{SHARES}
use Rattle.relax_core.specs.Views.{HasNextArc, IsAtRowEnd, has_no_vertex, vertex_of, next_arc, next_offer}
use Rattle.relax_core.specs.Views.{idle_view, taken, opened, went_along, raised, raised_by, marked, finished}
use Rattle.relax_core.specs.Views.{kept, gave_back, looked, kept_half, new_half, joined}
use Rattle.label_words.specs.declared.words.Step.{Step}
use Rattle.label_words.specs.declared.words.Step.TheVariants.{Lowered, Kept, RowEnd}
use Rattle.label_words.specs.declared.known.Known.{Known}
use Rattle.atomic_table.specs.Seated.{TableId}

-- a seat, as contracts see it: of which words it is, and what it knows
pub record Held : Type 0 where
  pub words : TableId
  pub known : Known

abbrev pub hand_of : Held → Hand
hand_of seat = seat.known.view.hand

abbrev pub IsIdle : Held → Type 0
IsIdle seat = seat.known.view.hand ≡ hand.Idle

-- credits alone are held
abbrev pub IsKept : Held → Type 0
IsKept seat = seat.known.view.hand ≡ hand.Kept

-- nothing is held, or credits alone
abbrev pub HasNoVertex : Held → Type 0
HasNoVertex seat = has_no_vertex seat.known.view.hand ≡ true

-- ---- what each call makes of what a seat knows

-- take: where the mark was set, the seat holds the vertex
abbrev pub after_take : Bool → ℕ → Known → Known
after_take was_marked u known = record known { view = taken was_marked u known.view }

-- read: the row is open with the label that was found, and the label is known
abbrev pub after_read : ℕ → Known → Known
after_read d known = record known {
  view = opened d (first_place known.graph.arcs (vertex_of known.view.hand)) known.view;
  labels = (vertex_of known.view.hand, d) ∷ known.labels;
}

-- relax: where the head's label fell, it is known and the head is owed a mark
abbrev pub after_relax : Bool → Known → Known
after_relax fell known = record known {
  view = went_along fell (next_arc known.graph known.view.hand).head known.view;
  labels =
      if fell
      then ((next_arc known.graph known.view.hand).head, next_offer known.graph known.view.hand) ∷ known.labels
      else known.labels;
}

abbrev pub after_raise : Known → Known
after_raise known = record known { view = raised known.view }

abbrev pub after_raise_by : ℕ → Known → Known
after_raise_by count known = record known { view = raised_by count known.view }

-- `set_mark`: the flag says whether the mark was set before
abbrev pub after_set_mark : Bool → Known → Known
after_set_mark was_marked known = record known { view = marked was_marked known.view }

abbrev pub after_finish : Known → Known
after_finish known = record known { view = finished known.view }

abbrev pub after_keep : Known → Known
after_keep known = record known { view = kept known.view }

-- `give_back`: of so many credits
abbrev pub after_give_back : ℕ → Known → Known
after_give_back count known = record known { view = gave_back count known.view }

-- see: the flag says whether the total was 0
abbrev pub after_see : Bool → Known → Known
after_see zero known = record known { view = looked zero known.view }

-- split: the seat keeps the larger half of its share, and a new one has the other and knows as much
abbrev pub left_half : Known → Known
left_half known = record known { view = kept_half known.view }

abbrev pub right_half : Known → Known
right_half known = record known { view = new_half known.view }

-- join: both shares, and all that either saw or knew
abbrev pub both_known : Known → Known → Known
both_known known other = record known {
  view = joined known.view other.view;
  labels = known.labels ++ other.labels;
}

abbrev pub no_graph : Graph
no_graph = record { n = 0; arcs = [] }

-- a seat that was joined into another
abbrev pub gone : Known
gone = record { view = idle_view 0; labels = []; graph = no_graph; seeds = [] }

-- what the first seat knows
abbrev pub first_known : Graph → List Seed → Known
first_known graph seeds = record { view = idle_view SHARES; labels = []; graph = graph; seeds = seeds }

-- ---- what a call returns

-- the label that a seat reads is INF or attained, and is not above what the seat knew of its vertex
pub record IsFound (known : Known) (d : ℕ) : Type 0 where
  pub attained : d < INF → IsAttained known.graph.arcs known.seeds (vertex_of known.view.hand) d
  pub lowest : All (λ entry. entry.0 ≡ vertex_of known.view.hand → d ≤ entry.1) known.labels

-- what the next arc offers is attained at its head
abbrev pub OfferAttains : Known → Type 0
OfferAttains known =
    IsAttained known.graph.arcs known.seeds
    (next_arc known.graph known.view.hand).head (next_offer known.graph known.view.hand)

-- a seat goes along the next arc of its row, or stays at the row's end
abbrev pub GoesAlong : Known → Step → Known → Type 0
GoesAlong old (Lowered head label) new =
    HasNextArc old.graph old.view.hand
    × (head ≡ (next_arc old.graph old.view.hand).head)
    × (label ≡ next_offer old.graph old.view.hand)
    × (new ≡ after_relax true old)
GoesAlong old Kept new = HasNextArc old.graph old.view.hand × (new ≡ after_relax false old)
GoesAlong old RowEnd new = IsAtRowEnd old.graph old.view.hand × (new ≡ old)

-- a label that was lowered is attained
abbrev pub Attains : Known → Step → Type 0
Attains old (Lowered head label) = IsAttained old.graph.arcs old.seeds head label
Attains old Kept = Unit {0}
Attains old RowEnd = Unit {0}
