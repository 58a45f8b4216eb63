-- The law of cover of a seat that relaxes the next arc of its row.
use Rattle.std.proofs.Common.{◌≡◌, ◌∙◌, sym, refl, ℕ, ◌+◌, ◌<◌, ◌≤◌, min, List, ◌⊎◌, inl, inr, Some}
use Rattle.std.proofs.Common.{length, set, arith}
use Rattle.std.specs.Prelude.{slice_get, nat_lt}
use Rattle.std.proofs.lemmas.Bool.{cases_eq, cases_lt, lt-ltb, le-ltb}
use Rattle.std.proofs.lemmas.List.{get_or_default}
use Rattle.std.proofs.lemmas.Option.{slice_get-get_or, same_Some}
use Rattle.route_walks.specs.declared.graph.ArcRec.{ArcRec}
use Rattle.route_walks.specs.declared.graph.Seed.{Seed}
use Rattle.route_walks.specs.declared.graph.TheConstants.{INF}
use Rattle.route_walks.specs.Walk.{IsAttained}
use Rattle.route_walks.specs.Label.{IsRelaxed, IsSound}
use Rattle.route_walks.proofs.Facts.{attained-along}
use Rattle.csr_graph.specs.Graph.{Graph, IsInRows, first_place, end_place}
use Rattle.csr_graph.proofs.Facts.{first_place_le, runs_are_rows}
use Rattle.relax_core.specs.declared.views.Hand.{Hand}
use Rattle.relax_core.specs.declared.views.Hand.TheVariants.{Open, Owe}
use Rattle.relax_core.specs.Views.{HoldsArc, IsHand, IsInRow, HasNextArc, vertex_of, read_of, place_of, next_arc}
use Rattle.relax_core.specs.Views.{next_offer, no_arc, went_along}
use Rattle.relax_core.specs.Lawful.{IsCovered}
use Rattle.relax_core.specs.Laws.{AgreeBut, RelaxingKeepsCover, LoweringAttains}
use Rattle.relax_core.proofs.Cover.{covers_step, row_falls, hand_at, held_here}

-- ---- the next arc of a row

-- the next arc is one of the graph, and stands at its place
pub next_place : (graph : Graph) (hand : Hand) → HasNextArc graph hand → place_of hand < length graph.arcs
next_place graph hand before = omega (arith, before, first_place_le graph.arcs (vertex_of hand + 1))

pub next_is : (graph : Graph) (hand : Hand) → HasNextArc graph hand
    → slice_get graph.arcs (place_of hand) ≡ Some (next_arc graph hand)
next_is graph hand before = slice_get-get_or graph.arcs (place_of hand) no_arc (next_place graph hand before)

-- its head is a vertex
pub head_in : (graph : Graph) (hand : Hand) → IsInRows graph → HasNextArc graph hand
    → (next_arc graph hand).head < graph.n
head_in graph hand rows before = (rows.ends (place_of hand) no_arc (next_place graph hand before)).1

-- what going along the next arc of a hand's row does to labels
record GoesAlong (graph : Graph) (seeds : List Seed) (label label' : ℕ → ℕ) (hand : Hand) : Type 0 where
  pub rows : IsInRows graph
  pub row : IsInRow graph seeds label (vertex_of hand) (read_of hand) (place_of hand)
  pub before : HasNextArc graph hand
  pub lesser : label' (next_arc graph hand).head ≡ min (label (next_arc graph hand).head) (next_offer graph hand)
  pub agree : AgreeBut (next_arc graph hand).head label label'

-- the arc leaves the hand's vertex
next_tail : {graph : Graph} {seeds : List Seed} {label : ℕ → ℕ} (hand : Hand)
    → IsInRows graph → IsInRow graph seeds label (vertex_of hand) (read_of hand) (place_of hand)
    → HasNextArc graph hand → (next_arc graph hand).tail ≡ vertex_of hand
next_tail {graph} hand rows row before =
    runs_are_rows graph rows (vertex_of hand) (place_of hand) (next_arc graph hand) (next_is graph hand before) row.from
    before

-- what it offers is attained, if it is below INF
offer_attained : {graph : Graph} {seeds : List Seed} {label : ℕ → ℕ} (hand : Hand)
    → IsInRows graph → IsInRow graph seeds label (vertex_of hand) (read_of hand) (place_of hand)
    → HasNextArc graph hand → next_offer graph hand < INF
    → IsAttained graph.arcs seeds (next_arc graph hand).head (next_offer graph hand)
offer_attained {graph} {seeds} hand rows row before below =
    let arc = next_arc graph hand in
    let sum : read_of hand + arc.weight ≡ next_offer graph hand = omega arith in
    let lt = next_place graph hand before in
    rw (← sum) (attained-along graph.arcs seeds arc (read_of hand)
    (place_of hand, lt, get_or_default graph.arcs (place_of hand) arc no_arc lt)
    (rw (next_tail hand rows row before) (row.attained (omega arith))))

pub lowering_attains : LoweringAttains
lowering_attains graph seeds label mark views s v rows was has held before =
    offer_attained v.hand rows (hand_at was has held) before

-- a label is kept, or it is that of the head, and it fell to what is offered
kept_or_fell : {graph : Graph} {seeds : List Seed} {label label' : ℕ → ℕ} {hand : Hand}
    → GoesAlong graph seeds label label' hand → (x : ℕ)
    → (label' x ≡ label x)
    ⊎ (((next_arc graph hand).head ≡ x) × (label' x ≡ next_offer graph hand)
    × (next_offer graph hand < label (next_arc graph hand).head))
kept_or_fell {graph} {label} {hand} goes x =
    elim (cases_eq x (next_arc graph hand).head) [
      | inr other ↦ inl (goes.agree x other)
      | inl same ↦
          elim (cases_lt (next_offer graph hand) (label (next_arc graph hand).head)) [
            | inl lowered ↦ inr (sym same, rw same (omega (arith, goes.lesser)), lowered)
            | inr least ↦ inl (rw same (omega (arith, goes.lesser)))
          ]
    ]

-- no label rises
labels_fall : {graph : Graph} {seeds : List Seed} {label label' : ℕ → ℕ} {hand : Hand}
    → GoesAlong graph seeds label label' hand → (x : ℕ) → label' x ≤ label x
labels_fall goes x =
    elim (kept_or_fell goes x) [
      | inl kept ↦ omega arith
      | inr fell ↦ rw (← fell.0) (omega (arith, goes.lesser))
    ]

-- every label stays sound
labels_sound : {graph : Graph} {seeds : List Seed} {label label' : ℕ → ℕ} {hand : Hand}
    → IsSound graph.n graph.arcs seeds label → GoesAlong graph seeds label label' hand
    → IsSound graph.n graph.arcs seeds label'
labels_sound {hand} sound goes x vertex below =
    elim (kept_or_fell goes x) [
      | inl kept ↦ rw kept (sound x vertex (omega arith))
      | inr fell ↦ rw (fell.1, ← fell.0) (offer_attained hand goes.rows goes.row goes.before (omega (arith, fell.1)))
    ]

-- the arc itself is relaxed afterwards
arc_relaxed : {graph : Graph} {seeds : List Seed} {label label' : ℕ → ℕ} {hand : Hand}
    → GoesAlong graph seeds label label' hand → read_of hand ≡ label (vertex_of hand)
    → IsRelaxed label' (next_arc graph hand)
arc_relaxed {graph} {label} {label'} {hand} goes fresh =
    let arc = next_arc graph hand in
    let old = next_tail hand goes.rows goes.row goes.before in
    elim (kept_or_fell goes arc.tail) [
      | inl kept ↦ omega (arith, goes.lesser, rw (← old) at fresh)
      | inr fell ↦ rw (← fell.0) (omega arith)
    ]

pub relaxing : RelaxingKeepsCover
relaxing graph seeds label label' mark views s v rows was has held before lesser agree =
    let arc = next_arc graph v.hand in
    let x = next_offer graph v.hand in
    let fell = nat_lt x (label arc.head) in
    let w = went_along fell arc.head v in
    let row : IsInRow graph seeds label (vertex_of v.hand) (read_of v.hand) (place_of v.hand) = hand_at was has held in
    let goes : GoesAlong graph seeds label label' v.hand =
    record { rows = rows; row = row; before = before; lesser = lesser; agree = agree } in
    let from : first_place graph.arcs (vertex_of v.hand) ≤ place_of v.hand + 1 = omega (arith, row.from) in
    let upto : place_of v.hand + 1 ≤ end_place graph.arcs (vertex_of v.hand) = omega arith in
    let later : IsInRow graph seeds label' (vertex_of v.hand) (read_of v.hand) (place_of v.hand + 1) =
    assumption (row_falls (labels_fall goes) row) in
    -- what holds of the hand that owes and of the open one holds of the new hand
    let either : (P : Hand → Type 0)
    → (x < label arc.head → P (Owe (vertex_of v.hand) (read_of v.hand) (place_of v.hand + 1) arc.head))
    → P (Open (vertex_of v.hand) (read_of v.hand) (place_of v.hand + 1)) → P w.hand = λ P owe open'.
    elim (cases_lt x (label arc.head)) [
      | inl lowered ↦ rw (lt-ltb x (label arc.head) lowered) (owe lowered)
      | inr least ↦ rw (le-ltb x (label arc.head) least) open'
    ] in
    let owed : (j : ℕ) (arc' : ArcRec) → arc.head ≡ arc'.tail → x < label arc.head
    → IsCovered label' mark (set views s w) j arc' =
    λ j arc' tail lowered. held_here label' mark w j arc' has (rw (lt-ltb x (label arc.head) lowered) (inl tail)) in
    covers_step {w = w} was has refl (record {
      falls = labels_fall goes;
      sound = labels_sound was.sound goes;
      hand = either (IsHand graph seeds label') (λ _. (later, head_in graph v.hand rows before)) later;
      own = λ j arc' at holds.
          let own = rw held at holds in
          elim (cases_eq j (place_of v.hand)) [
            | inl same ↦
                let one = same_Some arc' arc (sym (rw same at at) ∙ next_is graph v.hand before) in
                inl (rw one (arc_relaxed goes own.1))
            | inr other ↦
                elim (kept_or_fell goes (vertex_of v.hand)) [
                  | inl kept ↦
                      let rest : HoldsArc label' j arc'
                      (Open (vertex_of v.hand) (read_of v.hand) (place_of v.hand + 1)) =
                      (own.0, own.1 ∙ sym kept, omega (arith, own.2)) in
                      held_here label' mark w j arc' has (either (HoldsArc label' j arc') (λ _. inr rest) rest)
                  | inr fell' ↦ owed j arc' (fell'.0 ∙ own.0) fell'.2
                ]
          ];
      others = λ j arc'.
          elim (kept_or_fell goes arc'.tail) [
            | inl kept ↦ inl kept
            | inr fell' ↦ inr (owed j arc' fell'.0 fell'.2)
          ];
      set_before = λ j arc' marked. inr (inl marked);
    })
