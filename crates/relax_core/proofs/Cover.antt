-- The laws of cover: each event leaves every arc covered.
use Rattle.std.proofs.Common.{◌≡◌, ◌∙◌, sym, refl, ℕ, ◌+◌, ◌<◌, ◌≤◌, Bool, true, false, cond, List, ◌⊎◌, inl, inr}
use Rattle.std.proofs.Common.{Some, set, get_or, arith}
use Rattle.std.specs.Prelude.{◌==◌, slice_get}
use Rattle.std.proofs.lemmas.List.Elements.{All-set, All-push}
use Rattle.std.proofs.lemmas.List.Sums.{sum_by_push}
use Rattle.std.proofs.lemmas.List.Quantifiers.{any-set}
use Rattle.std.proofs.lemmas.Option.{slice_get_within}
use Rattle.std.proofs.lemmas.Bool.{cases_eq, cases_Bool}
use Rattle.route_walks.specs.declared.graph.ArcRec.{ArcRec}
use Rattle.route_walks.specs.declared.graph.Seed.{Seed}
use Rattle.route_walks.specs.Label.{IsSound}
use Rattle.csr_graph.specs.Graph.{Graph, first_place}
use Rattle.csr_graph.proofs.Facts.{first_place_rises, rows_are_runs}
use Rattle.relax_core.specs.declared.views.Hand.{Hand}
use Rattle.relax_core.specs.declared.views.Hand.TheVariants.{Idle, Kept, Fresh, Open, Owe}
use Rattle.relax_core.specs.declared.views.View.{View}
use Rattle.relax_core.specs.Views.{HasView, HoldsArc, IsHand, IsInRow, has_no_vertex, vertex_of, owed_of}
use Rattle.relax_core.specs.Views.{idle_view, taken, opened, marked, finished, kept, gave_back, kept_half, new_half}
use Rattle.relax_core.specs.Views.{joined}
use Rattle.relax_core.specs.Lawful.{Covers, AreCovered, IsCovered}
use Rattle.relax_core.specs.Laws.{TakingKeepsCover, ReadingKeepsCover, StayingKeepsCover, MarkingKeepsCover}
use Rattle.relax_core.specs.Laws.{FinishingKeepsCover, KeepingKeepsCover, ReturningKeepsCover}
use Rattle.relax_core.specs.Laws.{SplittingKeepsCover, JoiningKeepsCover}
use Rattle.relax_core.proofs.Seats.{all_at, any_replaced, any_added, sum_replaced, other_seat, two_shares}

-- a hand stays lawful while labels fall
pub row_falls : {graph : Graph} {seeds : List Seed} {label label' : ℕ → ℕ} {u d k : ℕ} → ((x : ℕ) → label' x ≤ label x)
    → IsInRow graph seeds label u d k → IsInRow graph seeds label' u d k
row_falls {label'} {u} {d} falls row = let read : label' u ≤ d = omega (arith, falls u, row.read) in assumption row

-- and so does the hand that is in it
pub hand_falls : (graph : Graph) (seeds : List Seed) {label label' : ℕ → ℕ} → ((x : ℕ) → label' x ≤ label x)
    → (hand : Hand) → IsHand graph seeds label hand → IsHand graph seeds label' hand
hand_falls graph seeds falls Idle h = tt
hand_falls graph seeds falls Kept h = tt
hand_falls graph seeds falls (Fresh u) h = h
hand_falls graph seeds falls (Open u d k) h = row_falls falls h
hand_falls graph seeds falls (Owe u d k head) h = (row_falls falls h.0, h.1)

-- a hand holds an arc as long as the label of the arc's tail stays
holds_kept : (label label' : ℕ → ℕ) (k : ℕ) (arc : ArcRec) (hand : Hand) → label' arc.tail ≡ label arc.tail
    → HoldsArc label k arc hand → HoldsArc label' k arc hand
holds_kept label label' k arc Idle same h = h
holds_kept label label' k arc Kept same h = h
holds_kept label label' k arc (Fresh u) same h = h
holds_kept label label' k arc (Open u d place) same h = (h.0, rw (h.0, same) (rw h.0 at h.1), h.2)
holds_kept label label' k arc (Owe u d place head) same (inl owed) = inl owed
holds_kept label label' k arc (Owe u d place head) same (inr held) =
    inr (held.0, rw (held.0, same) (rw held.0 at held.1), held.2)

-- a step of one view: what it has to show of labels, its hand, and the covered arcs
pub record IsStep (graph : Graph) (seeds : List Seed) (label label' : ℕ → ℕ) (mark mark' : ℕ → Bool)
    (views : List View) (s : ℕ) (v w : View) : Type 0 where
  pub falls : (x : ℕ) → label' x ≤ label x
  pub sound : IsSound graph.n graph.arcs seeds label'
  pub hand : IsHand graph seeds label' w.hand
  pub own : (k : ℕ) (arc : ArcRec) → slice_get graph.arcs k ≡ Some arc → HoldsArc label k arc v.hand
      → IsCovered label' mark' (set views s w) k arc
  pub others : (k : ℕ) (arc : ArcRec)
      → (label' arc.tail ≡ label arc.tail) ⊎ IsCovered label' mark' (set views s w) k arc
  pub set_before : (k : ℕ) (arc : ArcRec) → mark arc.tail ≡ true → IsCovered label' mark' (set views s w) k arc

-- such a step keeps cover
pub covers_step : {graph : Graph} {seeds : List Seed} {label label' : ℕ → ℕ} {mark mark' : ℕ → Bool}
    {views : List View} {s : ℕ} {v w : View}
    → Covers graph seeds label mark views → HasView views s v → w.share ≡ v.share
    → IsStep graph seeds label label' mark mark' views s v w
    → Covers graph seeds label' mark' (set views s w)
covers_step {graph} {seeds} {label} {label'} {views} {s} {v} {w} was has share step = record {
  sound = step.sound;
  met = λ k d lt. omega (arith, step.falls (get_or seeds k d).vertex, was.met k d lt);
  covered = λ k arc is.
      elim (step.others k arc) [
        | inr covered ↦ covered
        | inl same ↦
            elim (was.covered k arc is) [
              | inl relaxed ↦ inl (omega (arith, step.falls arc.head))
              | inr (inl marked) ↦ step.set_before k arc marked
              | inr (inr held) ↦
                  elim (any_replaced (λ (view : View). HoldsArc label k arc view.hand) views s v w has.here held) [
                    | inl own ↦ step.own k arc is own
                    | inr any ↦
                        inr (inr (any.0, any.1, any.2, any.3, holds_kept label label' k arc any.1.hand same any.4))
                  ]
            ]
      ];
  hands =
      All-set (λ (view : View). IsHand graph seeds label' view.hand) views s w step.hand
      (λ k d lt. hand_falls graph seeds step.falls (get_or views k d).hand (was.hands k d lt));
  shares = omega (arith, sum_replaced (λ (view : View). view.share) views s v w has.here, was.shares);
  spent =
      All-set (λ (view : View). view.share ≡ 0 → view.hand ≡ Idle) views s w
      (λ none. absurd (has.live (sym share ∙ none))) was.spent;
}

-- the hand of a seat
pub hand_at : {graph : Graph} {seeds : List Seed} {label : ℕ → ℕ} {mark : ℕ → Bool} {views : List View} {s : ℕ}
    {v : View} {hand : Hand}
    → Covers graph seeds label mark views → HasView views s v → v.hand ≡ hand → IsHand graph seeds label hand
hand_at {graph} {seeds} {label} {views} {s} {v} was has e =
    rw e at (all_at (λ (view : View). IsHand graph seeds label view.hand) views s v was.hands has.here)

-- the new view holds an arc
pub held_here : {views : List View} {s : ℕ} {v : View} (label : ℕ → ℕ) (mark : ℕ → Bool) (w : View) (k : ℕ)
    (arc : ArcRec)
    → HasView views s v → HoldsArc label k arc w.hand → IsCovered label mark (set views s w) k arc
held_here {views} {s} {v} label mark w k arc has holds =
    let within = slice_get_within views s v has.here in
    inr (inr (any-set (λ (view : View). HoldsArc label k arc view.hand) views s w within holds))

-- a step that leaves the labels
labels_stay : {graph : Graph} {seeds : List Seed} {label : ℕ → ℕ} {mark mark' : ℕ → Bool} {views : List View}
    {s : ℕ} {v : View} (w : View)
    → Covers graph seeds label mark views → HasView views s v → w.share ≡ v.share → IsHand graph seeds label w.hand
    → ((k : ℕ) (arc : ArcRec) → slice_get graph.arcs k ≡ Some arc → HoldsArc label k arc v.hand
    → IsCovered label mark' (set views s w) k arc)
    → ((k : ℕ) (arc : ArcRec) → mark arc.tail ≡ true → IsCovered label mark' (set views s w) k arc)
    → Covers graph seeds label mark' (set views s w)
labels_stay w was has share hand own set_before =
    covers_step was has share (record {
      falls = λ x. omega arith;
      sound = was.sound;
      hand = hand;
      own = own;
      others = λ k arc. inl refl;
      set_before = set_before;
    })

-- a hand without a vertex holds no arc
no_arc_held : (label : ℕ → ℕ) (k : ℕ) (arc : ArcRec) (hand : Hand)
    → has_no_vertex hand ≡ true → HoldsArc label k arc hand → ⊥
no_arc_held label k arc Idle is holds = holds
no_arc_held label k arc Kept is holds = holds
no_arc_held label k arc other is holds = cc

pub taking : TakingKeepsCover
taking graph seeds label mark mark' views s u v was has free vertex agree =
    labels_stay (taken (mark u) u v) was has refl
    (elim (cases_Bool (mark u)) [
      | inl marked ↦ rw marked vertex
      | inr unset ↦ rw unset (hand_at was has refl)
    ])
    (λ k arc is holds. absurd (no_arc_held label k arc v.hand free holds))
    (λ k arc marked. elim (cases_eq arc.tail u) [
      | inl same ↦ held_here label mark' (taken (mark u) u v) k arc has (rw (← same, marked) refl)
      | inr other ↦ inr (inl (agree arc.tail other ∙ marked))
    ])

pub reading : ReadingKeepsCover
reading graph seeds label mark views s v rows was has fresh =
    let u = vertex_of v.hand in
    let vertex : u < graph.n = hand_at was has fresh in
    let w = opened (label u) (first_place graph.arcs u) v in
    labels_stay w was has refl
    (record {
      vertex = vertex;
      read = omega arith;
      attained = was.sound u vertex;
      from = omega arith;
      upto = first_place_rises graph.arcs u (u + 1) (omega arith);
    })
    (λ k arc is holds.
    let tail = rw fresh at holds in
    held_here label mark w k arc has (tail, refl, rw tail (rows_are_runs graph rows k arc is).0))
    (λ k arc marked. inr (inl marked))

pub staying : StayingKeepsCover
staying graph seeds label mark views s v w was has hand share =
    labels_stay w was has share (hand_at was has (sym hand))
    (λ k arc is holds. held_here label mark w k arc has (rw hand holds))
    (λ k arc marked. inr (inl marked))

pub marking : MarkingKeepsCover
marking graph seeds label mark mark' views s v was has owe now' agree =
    labels_stay (marked (mark (owed_of v.hand)) v) was has refl (hand_at was has owe).0
    (λ k arc is holds. elim (rw owe at holds) [
      | inl tail ↦ inr (inl (rw (← tail) now'))
      | inr held ↦ held_here label mark' (marked (mark (owed_of v.hand)) v) k arc has held
    ])
    (λ k arc marked. elim (cases_eq arc.tail (owed_of v.hand)) [
      | inl same ↦ inr (inl (rw same now'))
      | inr other ↦ inr (inl (agree arc.tail other ∙ marked))
    ])

pub finishing : FinishingKeepsCover
finishing graph seeds label mark views s v rows was has held end =
    labels_stay (finished v) was has refl tt
    (λ k arc is holds.
    let own = rw held at holds in
    absurd (omega (arith, rw (← own.0) at (rows_are_runs graph rows k arc is).1)))
    (λ k arc marked. inr (inl marked))

pub keeping : KeepingKeepsCover
keeping graph seeds label mark views s v rows was has held end =
    labels_stay (kept v) was has refl tt
    (λ k arc is holds.
    let own = rw held at holds in
    absurd (omega (arith, rw (← own.0) at (rows_are_runs graph rows k arc is).1)))
    (λ k arc marked. inr (inl marked))

-- credits alone, or nothing, is a lawful hand
rest_held : (graph : Graph) (seeds : List Seed) (label : ℕ → ℕ) (all : Bool)
    → IsHand graph seeds label (cond {A = Hand} all Idle Kept)
rest_held graph seeds label true = tt
rest_held graph seeds label false = tt

pub returning : ReturningKeepsCover
returning graph seeds label mark views s count v was has held =
    labels_stay (gave_back count v) was has refl (rest_held graph seeds label (v.credits == count))
    (λ k arc is holds. absurd (rw held at holds))
    (λ k arc marked. inr (inl marked))

-- an idle view that is replaced by an idle one held no arc
covered_without : (graph : Graph) (label : ℕ → ℕ) (mark : ℕ → Bool) (views : List View) (s : ℕ) {v : View} (w : View)
    → AreCovered graph label mark views → slice_get views s ≡ Some v → v.hand ≡ Idle
    → AreCovered graph label mark (set views s w)
covered_without graph label mark views s {v} w was at idle k arc is =
    elim (was k arc is) [
      | inl relaxed ↦ inl relaxed
      | inr (inl marked) ↦ inr (inl marked)
      | inr (inr held) ↦
          elim (any_replaced (λ (view : View). HoldsArc label k arc view.hand) views s v w at held) [
            | inl own ↦ absurd (rw idle at own)
            | inr other ↦ inr (inr other)
          ]
    ]

pub splitting : SplittingKeepsCover
splitting graph seeds label mark views s v was has idle =
    let Lawful = λ (view : View). IsHand graph seeds label view.hand in
    let Spent = λ (view : View). view.share ≡ 0 → view.hand ≡ Idle in
    let rest = set views s (kept_half v) in
    record {
      sound = was.sound;
      met = was.met;
      covered = λ k arc is.
          elim (covered_without graph label mark views s (kept_half v) was.covered has.here idle k arc is) [
            | inl relaxed ↦ inl relaxed
            | inr (inl marked) ↦ inr (inl marked)
            | inr (inr held) ↦
                let Holds = λ (view : View). HoldsArc label k arc view.hand in
                inr (inr (any_added Holds Holds rest (new_half v) (λ _ h. h) held))
          ];
      hands =
          All-push Lawful rest (new_half v) (All-set Lawful views s (kept_half v) (hand_at was has refl) was.hands) tt;
      shares =
          let sums = sum_replaced (λ (view : View). view.share) views s v (kept_half v) has.here in
          omega (arith, sum_by_push (λ (view : View). view.share) rest (new_half v), was.shares);
      spent =
          All-push Spent rest (new_half v) (All-set Spent views s (kept_half v) (λ none. idle) was.spent)
          (λ none. refl);
    }

pub joining : JoiningKeepsCover
joining graph seeds label mark views s t v w was has has' apart idle idle' =
    let there = other_seat views s t w (joined v w) apart has'.here in
    let Lawful = λ (view : View). IsHand graph seeds label view.hand in
    let Spent = λ (view : View). view.share ≡ 0 → view.hand ≡ Idle in
    let rest = set views s (joined v w) in
    record {
      sound = was.sound;
      met = was.met;
      covered =
          covered_without graph label mark rest t (idle_view 0)
          (covered_without graph label mark views s (joined v w) was.covered has.here idle) there idle';
      hands =
          All-set Lawful rest t (idle_view 0) tt (All-set Lawful views s (joined v w) (hand_at was has refl) was.hands);
      shares =
          let one = sum_replaced (λ (view : View). view.share) views s v (joined v w) has.here in
          let two = sum_replaced (λ (view : View). view.share) rest t w (idle_view 0) there in
          omega (arith, two_shares views s t v w has.here has'.here apart, was.shares);
      spent =
          All-set Spent rest t (idle_view 0) (λ e. refl)
          (All-set Spent views s (joined v w) (λ e. idle) was.spent);
    }
