-- Each event leads from a lawful state to a lawful state.
use Rattle.std.proofs.Common.{◌≡◌, ◌∙◌, refl, ℕ, ◌+◌, ◌<◌, min, Bool, true, false, ◌&&◌, cond, List, [], ◌∷◌, Some}
use Rattle.std.proofs.Common.{None, inl, inr, set, arith, length, length-set, get_or-set_same, get_or-set_other}
use Rattle.std.specs.Prelude.{slice_get, slice_index, ◌==◌, nat_lt, nat_le}
use Rattle.std.proofs.lemmas.Bool.{cases_Bool, ltb-true, leb-true, eqb-true, eqb-false, ne_eqb, and_parts}
use Rattle.std.proofs.lemmas.Option.{option_and_then_some, cond_some, none-some, same_Some}
use Rattle.route_walks.specs.declared.graph.Seed.{Seed}
use Rattle.csr_graph.specs.Graph.{Graph, end_place}
use Rattle.relax_core.specs.declared.events.Event.TheVariants.{Take, Read, Relax, Raise, RaiseBy, SetMark}
use Rattle.relax_core.specs.declared.events.Event.TheVariants.{Finish, Keep, Return, See, Split, Join}
use Rattle.relax_core.specs.declared.views.Hand.{Hand}
use Rattle.relax_core.specs.declared.views.Hand.TheVariants.{Idle, Kept, Fresh, Open, Owe}
use Rattle.relax_core.specs.declared.views.View.{View}
use Rattle.relax_core.specs.Views.{HasView, IsFresh, IsOpen, Owes, is_idle, is_kept, has_no_vertex, is_fresh}
use Rattle.relax_core.specs.Views.{is_open, owes, vertex_of, place_of, owed_of, next_arc, next_offer, idle_view}
use Rattle.relax_core.specs.Views.{joined}
use Rattle.relax_core.specs.Lawful.{Covers, Account}
use Rattle.relax_core.specs.State.{State, IsLawful, mark_of}
use Rattle.relax_core.specs.Events.{after_at, live_view}
use Rattle.relax_core.specs.Laws.{AgreeBut, EventsKeepLawful, RunsKeepLawful}
use Rattle.relax_core.proofs.Along as along
use Rattle.relax_core.proofs.Cover as cover
use Rattle.relax_core.proofs.Accounts as account

-- ---- what a test of a hand says

idle_is : (hand : Hand) → is_idle hand ≡ true → hand ≡ Idle
idle_is Idle e = refl
idle_is other e = cc

kept_is : (hand : Hand) → is_kept hand ≡ true → hand ≡ Kept
kept_is Kept e = refl
kept_is other e = cc

fresh_is : (hand : Hand) → is_fresh hand ≡ true → IsFresh hand
fresh_is (Fresh u) e = refl
fresh_is other e = cc

open_is : (hand : Hand) → is_open hand ≡ true → IsOpen hand
open_is (Open u d k) e = refl
open_is other e = cc

owes_is : (hand : Hand) → owes hand ≡ true → Owes hand
owes_is (Owe u d k head) e = refl
owes_is other e = cc

-- ---- live seats

-- the view that a seat has, where it is live
pub live_at : (views : List View) (s : ℕ) (v : View) → live_view views s ≡ Some v → HasView views s v
live_at views s v e =
    option_and_then_some {P = HasView views s v}
    (λ (view : View). cond (view.share == 0) None (Some view)) (slice_get views s) v e (λ x at is.
    elim (cases_Bool (x.share == 0)) [
      | inl none ↦ absurd (none-some v (rw none at is))
      | inr some ↦
          rw (← same_Some x v (rw some at is)) (record { here = at; live = eqb-false x.share 0 some })
    ])

-- and a live seat has its view
pub live_some : (views : List View) (s : ℕ) (v : View) → HasView views s v → live_view views s ≡ Some v
live_some views s v has = rw (has.here, ne_eqb v.share 0 has.live)

-- an event is done to the view of a live seat that allows it
done_at : (P : State → Type 0) (state next : State) (s : ℕ) (may : View → Bool) (then' : View → State)
    → after_at state s may then' ≡ Some next
    → ((v : View) → HasView state.views s v → may v ≡ true → P (then' v)) → P next
done_at P state next s may then' e use' =
    option_and_then_some {P = P next} (λ (v : View). cond (may v) (Some (then' v)) None)
    (live_view state.views s) next e
    (λ v is done. let both = cond_some (may v) (then' v) next done in
    rw (← both.1) (use' v (live_at state.views s v is) both.0))

-- with as many labels and marks as a lawful state, cover and account are all that is asked
lawful_on : {graph : Graph} {seeds : List Seed} {old new : State} → IsLawful graph seeds old
    → length new.labels ≡ length old.labels → length new.marks ≡ length old.marks
    → Covers graph seeds (slice_index new.labels) (mark_of new.marks) new.views
    → Account graph.n (mark_of new.marks) new.total new.views → IsLawful graph seeds new
lawful_on was labels marks covers account = record {
  rows = was.rows;
  labels = labels ∙ was.labels;
  marks = marks ∙ was.marks;
  covers = covers;
  account = account;
}

-- ---- events

pub event_keeps_lawful : EventsKeepLawful
event_keeps_lawful graph seeds state next (Take s u) lawful e =
    done_at (IsLawful graph seeds) state _ _ _ _ e (λ v has may.
    let is = and_parts (has_no_vertex v.hand) (nat_lt u graph.n) may in
    let vertex = ltb-true u graph.n is.1 in
    let other : AgreeBut u (mark_of state.marks) (mark_of (set state.marks u false)) =
    λ x apart. get_or-set_other state.marks u x false false apart in
    lawful_on lawful refl (length-set state.marks u false)
    (cover.taking _ _ _ _ _ _ _ _ _ lawful.covers has is.0 vertex other)
    (account.taking _ _ _ _ _ _ _ _ lawful.account has is.0 vertex
    (get_or-set_same state.marks u false false (omega (arith, lawful.marks))) other))
event_keeps_lawful graph seeds state next (Read s) lawful e =
    done_at (IsLawful graph seeds) state _ _ _ _ e (λ v has may.
    let fresh = fresh_is v.hand may in
    lawful_on lawful refl refl (cover.reading _ _ _ _ _ _ _ lawful.rows lawful.covers has fresh)
    (account.reading _ _ _ _ _ _ _ _ lawful.account has fresh))
event_keeps_lawful graph seeds state next (Relax s) lawful e =
    done_at (IsLawful graph seeds) state _ _ _ _ e (λ v has may.
    let is = and_parts (is_open v.hand) (nat_lt (place_of v.hand) (end_place graph.arcs (vertex_of v.hand))) may in
    let held = open_is v.hand is.0 in
    let before = ltb-true (place_of v.hand) (end_place graph.arcs (vertex_of v.hand)) is.1 in
    let head = (next_arc graph v.hand).head in
    let x = min (slice_index state.labels head) (next_offer graph v.hand) in
    let within = along.head_in graph v.hand lawful.rows before in
    lawful_on lawful (length-set state.labels head x) refl
    (along.relaxing _ _ _ _ _ _ _ _ lawful.rows lawful.covers has held before
    (get_or-set_same state.labels head x 0 (omega (arith, within, lawful.labels)))
    (λ y apart. get_or-set_other state.labels head y x 0 apart))
    (account.relaxing _ _ _ _ _ _ _ _ lawful.account has held))
event_keeps_lawful graph seeds state next (Raise s) lawful e =
    done_at (IsLawful graph seeds) state _ _ _ _ e (λ v has may.
    let is = and_parts (owes v.hand) (v.credits == 1) may in
    lawful_on lawful refl refl (cover.staying _ _ _ _ _ _ _ _ lawful.covers has refl refl)
    (account.raising _ _ _ _ _ _ lawful.account has (owes_is v.hand is.0) (eqb-true v.credits 1 is.1)))
event_keeps_lawful graph seeds state next (RaiseBy s count) lawful e =
    done_at (IsLawful graph seeds) state _ _ _ _ e (λ v has may.
    let is = and_parts (owes v.hand) (nat_le (v.credits + count) 255) may in
    lawful_on lawful refl refl (cover.staying _ _ _ _ _ _ _ _ lawful.covers has refl refl)
    (account.raising_by _ _ _ _ _ _ _ lawful.account has (owes_is v.hand is.0)
    (leb-true (v.credits + count) 255 is.1)))
event_keeps_lawful graph seeds state next (SetMark s) lawful e =
    done_at (IsLawful graph seeds) state _ _ _ _ e (λ v has may.
    let is = and_parts (owes v.hand) (nat_le 2 v.credits) may in
    let owe = owes_is v.hand is.0 in
    let head = owed_of v.hand in
    let within : head < graph.n = (cover.hand_at lawful.covers has owe).1 in
    let now' = get_or-set_same state.marks head true false (omega (arith, within, lawful.marks)) in
    let other : AgreeBut head (mark_of state.marks) (mark_of (set state.marks head true)) =
    λ x apart. get_or-set_other state.marks head x true false apart in
    lawful_on lawful refl (length-set state.marks head true)
    (cover.marking _ _ _ _ _ _ _ _ lawful.covers has owe now' other)
    (account.marking _ _ _ _ _ _ _ lawful.account has owe (leb-true 2 v.credits is.1) within now' other))
event_keeps_lawful graph seeds state next (Finish s) lawful e =
    done_at (IsLawful graph seeds) state _ _ _ _ e (λ v has may.
    let is = and_parts (is_open v.hand) (place_of v.hand == end_place graph.arcs (vertex_of v.hand)) may in
    let end' = eqb-true (place_of v.hand) (end_place graph.arcs (vertex_of v.hand)) is.1 in
    let above = account.total_above lawful.account has in
    lawful_on lawful refl refl
    (cover.finishing _ _ _ _ _ _ _ lawful.rows lawful.covers has (open_is v.hand is.0) end')
    (account.finishing _ _ _ _ _ _ _ lawful.account has (omega arith)))
event_keeps_lawful graph seeds state next (Keep s) lawful e =
    done_at (IsLawful graph seeds) state _ _ _ _ e (λ v has may.
    let ends = place_of v.hand == end_place graph.arcs (vertex_of v.hand) in
    let is = and_parts (is_open v.hand) (ends && nat_le v.credits 254) may in
    let both = and_parts ends (nat_le v.credits 254) is.1 in
    let end' = eqb-true (place_of v.hand) (end_place graph.arcs (vertex_of v.hand)) both.0 in
    lawful_on lawful refl refl
    (cover.keeping _ _ _ _ _ _ _ lawful.rows lawful.covers has (open_is v.hand is.0) end')
    (account.keeping _ _ _ _ _ _ lawful.account has (open_is v.hand is.0) (leb-true v.credits 254 both.1)))
event_keeps_lawful graph seeds state next (Return s count) lawful e =
    done_at (IsLawful graph seeds) state _ _ _ _ e (λ v has may.
    let is = and_parts (is_kept v.hand) (nat_le count v.credits) may in
    let held = kept_is v.hand is.0 in
    let some = leb-true count v.credits is.1 in
    let above = account.total_above lawful.account has in
    lawful_on lawful refl refl (cover.returning _ _ _ _ _ _ _ _ lawful.covers has held)
    (account.returning _ _ _ _ _ _ _ _ lawful.account has held some (omega arith)))
event_keeps_lawful graph seeds state next (See s) lawful e =
    done_at (IsLawful graph seeds) state _ _ _ _ e (λ v has idle.
    lawful_on lawful refl refl (cover.staying _ _ _ _ _ _ _ _ lawful.covers has refl refl)
    (account.seeing _ _ _ _ _ _ lawful.account has))
event_keeps_lawful graph seeds state next (Split s) lawful e =
    done_at (IsLawful graph seeds) state _ _ _ _ e (λ v has may.
    let idle = idle_is v.hand (and_parts (is_idle v.hand) (nat_le 2 v.share) may).0 in
    lawful_on lawful refl refl (cover.splitting _ _ _ _ _ _ _ lawful.covers has idle)
    (account.splitting _ _ _ _ _ _ lawful.account has idle))
event_keeps_lawful graph seeds state next (Join s t) lawful e =
    let to = λ (v : View).
    after_at state t (λ (w : View). is_idle v.hand && is_idle w.hand) (λ (w : View).
    record state { views = set (set state.views s (joined v w)) t (idle_view 0) }) in
    elim (cases_Bool (s == t)) [
      | inl same ↦ absurd (none-some next (rw same at e))
      | inr apart ↦
          option_and_then_some {P = IsLawful graph seeds next} to (live_view state.views s) next
          (rw apart at e) (λ v at inner.
          let has = live_at state.views s v at in
          done_at (IsLawful graph seeds) state _ _ _ _ inner (λ w has' may.
          let is = and_parts (is_idle v.hand) (is_idle w.hand) may in
          let idle = idle_is v.hand is.0 in
          let idle' = idle_is w.hand is.1 in
          let other = eqb-false s t apart in
          lawful_on lawful refl refl (cover.joining _ _ _ _ _ _ _ _ _ lawful.covers has has' other idle idle')
          (account.joining _ _ _ _ _ _ _ _ lawful.account has has' other idle idle')))
    ]

pub run_keeps_lawful : RunsKeepLawful
run_keeps_lawful graph seeds state last [] lawful run = rw (← run) lawful
run_keeps_lawful graph seeds state last (event ∷ events) lawful run =
    run_keeps_lawful graph seeds run.0 last events (event_keeps_lawful graph seeds state run.0 event lawful run.1) run.2
