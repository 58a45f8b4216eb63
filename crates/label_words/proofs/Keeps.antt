-- A call that is an event keeps the rule of the words.
use Rattle.std.proofs.Common.{◌≡◌, ◌∙◌, sym, ap, ℕ, zero, suc, ◌<◌, ◌≤◌, List, [], ◌∷◌, Some, inl}
use Rattle.std.proofs.Common.{inr, length, set, arith, length-set, get_or-set_same}
use Rattle.std.proofs.Common.{get_or-set_other, ◌≢◌, subst, refl, ⊎_elim}
use Rattle.std.specs.Prelude.{slice_get, slice_index, All}
use Rattle.std.proofs.lemmas.Bool.{cases_eq}
use Rattle.std.proofs.lemmas.Option.{slice_get-get_or, slice_get_within}
use Rattle.std.proofs.lemmas.List.{map-set}
use Rattle.std.proofs.lemmas.List.Elements.{All-weaker}
use mathlib.Core.Option.{some, some-injective, some-ne-none}
use lib.ListN.{get_elem?}
use Rattle.atomic_table.specs.Table.{State as TableState, Me, keeps, Allows}
use Rattle.atomic_table.proofs.Lists.{at_set}
use Rattle.route_walks.specs.declared.graph.Seed.{Seed}
use Rattle.csr_graph.specs.Graph.{Graph}
use Rattle.relax_core.specs.declared.views.View.{View}
use Rattle.relax_core.specs.declared.events.Event.{Event}
use Rattle.relax_core.specs.declared.views.Hand.{Hand}
use Rattle.relax_core.specs.declared.views.Hand.TheVariants.{Idle, Kept, Fresh, Open, Owe}
use Rattle.relax_core.specs.Views.{HasView, IsHand, idle_view}
use Rattle.relax_core.specs.State.{State, IsLawful}
use Rattle.relax_core.proofs.Facts.{credits_at, hand_at, event_keeps_lawful, sum_replaced}
use Rattle.label_words.specs.declared.known.Known.{Known}
use Rattle.label_words.specs.Layout.{label_word, label_of, word_count}
use Rattle.label_words.specs.Rule.{views_of, Knows, AllKnow, AreLawful}
use Rattle.label_words.specs.Laws.{WordsHold, IsTheEvent}
use Rattle.label_words.specs.Seats.{FitsGraph, IsReady}

-- the view of a seat among the views of all
pub view_at : (seats : List Known) (s : ℕ) (seat : Known)
    → get_elem? seats s ≡ some seat → slice_get (views_of seats) s ≡ Some seat.view
view_at [] s seat e = absurd (some-ne-none seat (sym e))
view_at (x ∷ xs) zero seat e = ap (λ (y : Known). Some y.view) (some-injective x seat e)
view_at (x ∷ xs) (suc s) seat e = view_at xs s seat e

-- a seat's new view is the one that was put there
pub new_view : (views : List View) (s : ℕ) (w : View) → s < length views → slice_get (set views s w) s ≡ Some w
new_view views s w lt =
    slice_get-get_or (set views s w) s w (omega (arith, length-set views s w))
    ∙ ap Some (get_or-set_same views s w w lt)

-- no label rises where a word of a label is written with no more than it was
pub no_label_rises : (words : List ℕ) (i x : ℕ) → i < length words
    → ((v : ℕ) → i ≡ label_word v → x ≤ slice_index words i)
    → (v : ℕ) → label_of (set words i x) v ≤ label_of words v
no_label_rises words i x lt falls v =
    elim (cases_eq (label_word v) i) [
      | inl same ↦ rw (same, get_or-set_same words i x 0 lt) (falls v (sym same))
      | inr other ↦ let as_before = get_or-set_other words i (label_word v) x 0 other in omega arith
    ]

-- ---- what a lawful state says of a seat

hand_fits : (graph : Graph) (seeds : List Seed) (label : ℕ → ℕ) (hand : Hand)
    → IsHand graph seeds label hand → FitsGraph graph hand
hand_fits graph seeds label Idle h = tt
hand_fits graph seeds label Kept h = tt
hand_fits graph seeds label (Fresh u) h = h
hand_fits graph seeds label (Open u d k) h = (h.vertex, h.upto)
hand_fits graph seeds label (Owe u d k head) h = (h.0.vertex, h.0.upto, h.1)

-- a live seat of a lawful state may step
pub ready_of : (seeds : List Seed) (state : State) (s : ℕ) (seat : Known)
    → IsLawful seat.graph seeds state → HasView state.views s seat.view → IsReady seat
ready_of seeds state s seat lawful has = record {
  rows = lawful.rows;
  hand = hand_fits seat.graph seeds (slice_index state.labels) seat.view.hand (hand_at lawful.covers has refl);
  credits = credits_at lawful.account has refl;
  share = omega (arith, has.live);
  shares =
      let sums = sum_replaced (λ (view : View). view.share) state.views s seat.view (idle_view 0) has.here in
      omega (arith, sums, lawful.covers.shares);
}

-- a seat that may step knows what is so
pub knows_at : {graph : Graph} {seeds : List Seed} {words : List ℕ} {seats : List Known} {seat : Known} (s : ℕ)
    → AreLawful graph seeds words seats → IsReady seat → get_elem? seats s ≡ some seat
    → Knows graph seeds (label_of words) seat
knows_at {seat} s was ready at = was.knows s seat at (λ none. absurd (omega (arith, ready.share)))

-- and the words hold what it knows
pub words_hold : {graph : Graph} {seeds : List Seed} {words : List ℕ} {seats : List Known} {seat : Known} (s : ℕ)
    → (was : AreLawful graph seeds words seats) → IsReady seat → get_elem? seats s ≡ some seat
    → WordsHold was.state words s seat
words_hold {seats} {seat} s was ready at =
    let same = (knows_at s was ready at).graph_is in
    record {
      labels = rw same was.lawful.labels;
      marks = rw same was.lawful.marks;
      laid = rw same was.laid;
      has = record {
        here = rw was.views_are (view_at seats s seat at);
        live =
            λ none. absurd (omega (arith, ready.share));
      };
      ready = ready;
    }

-- ---- what seats know

-- what a seat knows stays true while no label rises
pub knows_still : {graph : Graph} {seeds : List Seed} {label label' : ℕ → ℕ} {seat : Known}
    → ((v : ℕ) → label' v ≤ label v) → Knows graph seeds label seat → Knows graph seeds label' seat
knows_still {label} {label'} {seat} falls was = record {
  graph_is = was.graph_is;
  seeds_are = was.seeds_are;
  above =
      All-weaker (λ (entry : ℕ × ℕ). label entry.0 ≤ entry.1) (λ (entry : ℕ × ℕ). label' entry.0 ≤ entry.1)
      (λ entry le. let lower = falls entry.0 in omega arith) seat.labels was.above;
}

-- where one seat knows something new, and no label rises, all know
pub all_know_still : {graph : Graph} {seeds : List Seed} {label label' : ℕ → ℕ} (seats : List Known) (s : ℕ) (w : Known)
    → ((v : ℕ) → label' v ≤ label v) → AllKnow graph seeds label seats
    → (w.view.share ≢ 0 → Knows graph seeds label' w) → AllKnow graph seeds label' (set seats s w)
all_know_still {graph} {seeds} {label} {label'} seats s w falls was own t seat at live =
    ⊎_elim
    (λ (here : (t ≡ s) × (w ≡ seat)).
    subst (Knows graph seeds label') here.1 (own (λ none. live (rw (← here.1) none))))
    (λ (other : (t ≢ s) × (get_elem? seats t ≡ some seat)). knows_still falls (was t seat other.1 live))
    (at_set seats s t w seat at)

-- ---- calls

-- the rule over other names of the same graph and seeds
pub renamed : {graph graph' : Graph} {seeds seeds' : List Seed} {words : List ℕ} {seats : List Known}
    → graph ≡ graph' → seeds ≡ seeds' → AreLawful graph seeds words seats → AreLawful graph' seeds' words seats
renamed {words} {seats} g sd was =
    subst (λ (p : Graph × List Seed). AreLawful p.0 p.1 words seats) (λ i. (g i, sd i)) was

-- a seat with its slots, of which it has none
abbrev pub Mine : Type 0
Mine = Me (Unit {0}) Known

-- the rule allows a seat to make f of a word
abbrev pub Allowed : Mine → ℕ → (ℕ → ℕ) → (ℕ → Mine → Type 0) → Type 0
Allowed me word f then' =
    (graph : Graph) (seeds : List Seed) (slots id : ℕ)
    → Allows (λ (state : TableState (Unit {0}) Known). AreLawful graph seeds state.words state.views) slots id me word f
    then'

-- it allows a call that is an event: the seat then has this view, knows these labels, and P of what it found
pub allows : {me : Mine} {word : ℕ} {f : ℕ → ℕ} (P : ℕ → Type 0) (event : ℕ → Event) (view : ℕ → View)
    (labels : ℕ → List (ℕ × ℕ)) → IsReady me.0
    → word < word_count me.0.graph.n → ((x v : ℕ) → word ≡ label_word v → f x ≤ x)
    → ((x : ℕ) → (view x).share ≡ me.0.view.share)
    → ((words : List ℕ) (seats : List Known) (id x : ℕ) (was : AreLawful me.0.graph me.0.seeds words seats)
    → WordsHold was.state words id me.0 → Knows me.0.graph me.0.seeds (label_of words) me.0
    → slice_index words word ≡ x → x < 18446744073709551616
    → IsTheEvent (event id) was.state words id me.0 word (f x) (record me.0 { view = view x; labels = labels x })
    × (All (λ entry. label_of (set words word (f x)) entry.0 ≤ entry.1) me.0.labels
    → All (λ entry. label_of (set words word (f x)) entry.0 ≤ entry.1) (labels x))
    × P x)
    → Allowed me word f
    (λ x new. (new ≡ (record me.0 { view = view x; labels = labels x }, me.1)) × IsReady new.0 × P x)
allows {me} {word} {f} P event view labels ready within falls same step graph seeds slots id state holds count at
    below =
    let mine = knows_at id holds ready at in
    let was : AreLawful me.0.graph me.0.seeds state.words state.views =
    renamed (sym mine.graph_is) (sym mine.seeds_are) holds in
    let x = slice_index state.words word in
    let w : Known = record me.0 { view = view x; labels = labels x } in
    let has = words_hold id was ready at in
    let own = knows_at id was ready at in
    let call = step state.words state.views id x was has own refl below in
    let next = call.0.0 in
    let lawful = event_keeps_lawful me.0.graph me.0.seeds was.state next (event id) was.lawful call.0.1 in
    let lower = no_label_rises state.words word (f x) (omega (arith, was.laid.count)) (falls x) in
    let has' : HasView next.views id w.view = record {
      here = rw call.0.3 (new_view was.state.views id w.view (slice_get_within _ id me.0.view has.has.here));
      live = rw (same x) has.has.live;
    } in
    let kept : AreLawful me.0.graph me.0.seeds (set state.words word (f x)) (set state.views id w) = record {
      state = next;
      lawful = lawful;
      laid = call.0.2;
      views_are = call.0.3 ∙ ap (λ (vs : List View). set vs id w.view) was.views_are ∙ sym (map-set _ state.views id w);
      knows =
          all_know_still state.views id w lower was.knows
          (λ _. record { graph_is = refl; seeds_are = refl; above = call.1 (knows_still lower own).above });
    } in
    (w, keeps, tt, renamed mine.graph_is mine.seeds_are kept, (refl, ready_of me.0.seeds next id w lawful has', call.2))

-- and one that writes no label and tells of none
pub allows_quiet : {me : Mine} {word : ℕ} (f : ℕ → ℕ) (event : ℕ → Event) (view : ℕ → View) → IsReady me.0
    → word < word_count me.0.graph.n → ((v : ℕ) → word ≢ label_word v)
    → ((x : ℕ) → (view x).share ≡ me.0.view.share)
    → ((words : List ℕ) (seats : List Known) (id x : ℕ) (was : AreLawful me.0.graph me.0.seeds words seats)
    → WordsHold was.state words id me.0 → slice_index words word ≡ x → x < 18446744073709551616
    → IsTheEvent (event id) was.state words id me.0 word (f x) (record me.0 { view = view x }))
    → Allowed me word f (λ x new. (new ≡ (record me.0 { view = view x }, me.1)) × IsReady new.0)
allows_quiet {me} f event view ready within apart same step graph seeds slots id state holds count at below =
    let call = allows (λ x. Unit {0}) event view (λ x. me.0.labels) ready within (λ x v e. absurd (apart v e)) same
    (λ words seats id x was holds mine is below. (step words seats id x was holds is below, λ above. above, tt))
    graph seeds slots id state holds count at below in
    (call.0, call.1, call.2, call.3, (call.4.0, call.4.1))
