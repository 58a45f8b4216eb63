-- Each call's one operation on one word is the event of its name.
use Rattle.std.proofs.Common.{◌≡◌, ◌≢◌, ◌∙◌, sym, ap, subst, refl, ℕ, ◌<◌, List, Bool, false, inl}
use Rattle.std.proofs.Common.{inr, length, set, arith, length-set, get_or-set_same}
use Rattle.std.proofs.Common.{get_or-set_other, ◌+◌, ◌-◌, true, ◌&&◌, cond, None, Some}
use Rattle.std.specs.Prelude.{slice_index, nat_lt, option_and_then}
use Rattle.std.proofs.lemmas.Bool.{cases_eq, lt-ltb, le-leb, eq-eqb, ne_eqb}
use Rattle.std.proofs.lemmas.List.{set-get_or}
use Rattle.relax_core.specs.declared.views.View.{View}
use Rattle.relax_core.specs.State.{State, mark_of as is_marked}
use Rattle.relax_core.specs.Views.{is_fresh, is_idle, owed_of, idle_view, joined}
use Rattle.relax_core.specs.Events.{after_at, live_view}
use Rattle.relax_core.proofs.Facts.{head_in, enabled, live_some}
use Rattle.label_words.specs.Layout.{label_word, mark_word, word_count, total_of}
use Rattle.label_words.specs.Rule.{IsLaid}
use Rattle.label_words.specs.declared.known.Known.{Known}
use Rattle.label_words.specs.Seats.{FitsGraph}
use Rattle.label_words.specs.Laws.{WordsHold, TakeIsItsEvent, ReadIsItsEvent, RelaxIsItsEvent}
use Rattle.label_words.specs.Laws.{RaiseIsItsEvent, RaiseByIsItsEvent, SetMarkIsItsEvent, FinishIsItsEvent}
use Rattle.label_words.specs.Laws.{KeepIsItsEvent, ReturnIsItsEvent, SeeIsItsEvent, SplitIsItsEvent}
use Rattle.label_words.specs.Laws.{JoinIsItsEvent}

-- a word after a word was written
word_after : {X : Type 0} (f : ℕ → X) (words : List ℕ) (i x j : ℕ) (old new : X) → i < length words
    → f (slice_index words j) ≡ old → (j ≡ i → f x ≡ new) → (j ≢ i → new ≡ old)
    → f (slice_index (set words i x) j) ≡ new
word_after f words i x j old new lt was here other =
    elim (cases_eq j i) [
      | inl same ↦ ap f (ap (slice_index (set words i x)) same ∙ get_or-set_same words i x 0 lt) ∙ here same
      | inr apart ↦ ap f (get_or-set_other words i j x 0 apart) ∙ was ∙ sym (other apart)
    ]

-- the words hold the new state where the written word does, and the others are as they were
laid_word : {state state' : State} {n : ℕ} {words : List ℕ} (i x : ℕ) → IsLaid state n words → i < word_count n
    → (0 ≡ i → x ≡ state'.total) → (0 ≢ i → state'.total ≡ state.total)
    → ((v : ℕ) → v < n → (label_word v ≡ i → x ≡ slice_index state'.labels v)
    × (label_word v ≢ i → slice_index state'.labels v ≡ slice_index state.labels v))
    → ((v : ℕ) → v < n → (mark_word v ≡ i → nat_lt 0 x ≡ is_marked state'.marks v)
    × (mark_word v ≢ i → is_marked state'.marks v ≡ is_marked state.marks v))
    → IsLaid state' n (set words i x)
laid_word {state} {state'} {n} {words} i x was lt total total' labels marks =
    let within : i < length words = omega (arith, was.count) in
    record {
      count = length-set words i x ∙ was.count;
      total = word_after (λ (y : ℕ). y) words i x 0 state.total state'.total within was.total total total';
      labels = λ v below.
          word_after (λ (y : ℕ). y) words i x (label_word v) (slice_index state.labels v) (slice_index state'.labels v)
          within (was.labels v below) (labels v below).0 (labels v below).1;
      marks = λ v below.
          word_after (nat_lt 0) words i x (mark_word v) (is_marked state.marks v) (is_marked state'.marks v)
          within (was.marks v below) (marks v below).0 (marks v below).1;
    }

-- a new mark
pub laid_mark : {state : State} {n : ℕ} {words : List ℕ} (u x : ℕ) (b : Bool) (views : List View)
    → IsLaid state n words → length state.marks ≡ n → u < n → nat_lt 0 x ≡ b
    → IsLaid (record state { marks = set state.marks u b; views = views }) n (set words (mark_word u) x)
laid_mark {state} {n} {words} u x b views was marks lt is =
    laid_word (mark_word u) x was (omega arith) (λ e. absurd (omega arith)) (λ e. refl)
    (λ v below. (λ e. absurd (omega arith), λ e. refl))
    (λ v below. (
      λ e. let same : v ≡ u = omega arith in rw (same, get_or-set_same state.marks u b false (omega (arith, marks))) is,
      λ e. get_or-set_other state.marks u v b false (λ same. e (omega arith)),
    ))

-- a new label
pub laid_label : {state : State} {n : ℕ} {words : List ℕ} (u x : ℕ) (views : List View)
    → IsLaid state n words → length state.labels ≡ n → u < n
    → IsLaid (record state { labels = set state.labels u x; views = views }) n (set words (label_word u) x)
laid_label {state} {n} {words} u x views was labels lt =
    laid_word (label_word u) x was (omega arith) (λ e. absurd (omega arith)) (λ e. refl)
    (λ v below. (
      λ e. let same : v ≡ u = omega arith in rw (same, get_or-set_same state.labels u x 0 (omega (arith, labels))) refl,
      λ e. get_or-set_other state.labels u v x 0 (λ same. e (omega arith)),
    ))
    (λ v below. (λ e. absurd (omega arith), λ e. refl))

-- a new total
pub laid_total : {state : State} {n : ℕ} {words : List ℕ} (x y : ℕ) (views : List View)
    → IsLaid state n words → x ≡ y → IsLaid (record state { total = y; views = views }) n (set words 0 x)
laid_total {state} {n} {words} x y views was is =
    laid_word 0 x was (omega arith) (λ e. is) (λ e. absurd (e refl))
    (λ v below. (λ e. absurd (omega arith), λ e. refl)) (λ v below. (λ e. absurd (omega arith), λ e. refl))

-- other views
pub laid_views : {state : State} {n : ℕ} {words : List ℕ} (views : List View)
    → IsLaid state n words → IsLaid (record state { views = views }) n words
laid_views views was = record { count = was.count; total = was.total; labels = was.labels; marks = was.marks }

-- and a word that is written as it was
pub laid_load : {state : State} {n : ℕ} {words : List ℕ} (i : ℕ) (views : List View)
    → IsLaid state n words → IsLaid (record state { views = views }) n (set words i (slice_index words i))
laid_load {state} {n} {words} i views was =
    subst (IsLaid (record state { views = views }) n) (sym (set-get_or words i 0)) (laid_views views was)

-- the view of the seat that the words hold
live : {state : State} {words : List ℕ} {s : ℕ} {seat : Known}
    → WordsHold state words s seat → live_view state.views s ≡ Some seat.view
live {state} {s} {seat} holds = live_some state.views s seat.view holds.has

pub taking : TakeIsItsEvent
taking state words s u seat holds free vertex =
    rw (holds.laid.marks u vertex) (
      _,
      enabled state _ s seat.view _ _ (live holds) (rw free (lt-ltb u seat.graph.n vertex)) refl,
      laid_mark u 0 false _ holds.laid holds.marks vertex refl,
      refl,
    )

pub reading : ReadIsItsEvent
reading state words s u seat holds fresh vertex =
    let within : u < seat.graph.n = rw vertex at (subst (FitsGraph seat.graph) fresh holds.ready.hand) in (
      _,
      enabled state _ s seat.view _ _ (live holds) (ap is_fresh fresh) refl,
      laid_load (label_word u) _ holds.laid,
      rw (holds.laid.labels u within, ← vertex) refl,
    )

pub relaxing : RelaxIsItsEvent
relaxing state words s head seat holds held before heads =
    let within : head < seat.graph.n = rw heads at (head_in seat.graph seat.view.hand holds.ready.rows before) in
    rw (holds.laid.labels head within) (
      _,
      enabled state _ s seat.view _ _ (live holds) (rw held (lt-ltb _ _ before)) refl,
      rw heads (laid_label head _ _ holds.laid holds.labels within),
      rw heads refl,
    )

pub raising : RaiseIsItsEvent
raising state words s seat holds owe one = (
  _,
  enabled state _ s seat.view _ _ (live holds) (rw (owe, one) refl) refl,
  laid_total (total_of words + 1) (state.total + 1) _ holds.laid (ap (λ t. t + 1) holds.laid.total),
  refl,
)

pub raising_by : RaiseByIsItsEvent
raising_by state words s count seat holds owe room = (
  _,
  enabled state _ s seat.view _ _ (live holds) (rw owe (le-leb (seat.view.credits + count) 255 room)) refl,
  laid_total (total_of words + count) (state.total + count) _ holds.laid (ap (λ t. t + count) holds.laid.total),
  refl,
)

pub marking : SetMarkIsItsEvent
marking state words s head seat holds owe two owed =
    let within : head < seat.graph.n = rw owed at ((subst (FitsGraph seat.graph) owe holds.ready.hand).2) in
    rw (holds.laid.marks head within, ← owed) (
      _,
      enabled state _ s seat.view _ _ (live holds) (rw owe (le-leb 2 seat.view.credits two)) refl,
      laid_mark (owed_of seat.view.hand) 1 true _ holds.laid holds.marks (omega arith) refl,
      refl,
    )

pub finishing : FinishIsItsEvent
finishing state words s seat holds held end = (
  _,
  enabled state _ s seat.view _ _ (live holds) (rw held (eq-eqb _ _ end)) refl,
  laid_total (total_of words - seat.view.credits) (state.total - seat.view.credits) _ holds.laid
      (ap (λ t. t - seat.view.credits) holds.laid.total),
  refl,
)

pub keeping : KeepIsItsEvent
keeping state words s seat holds held end room = (
  _,
  enabled state _ s seat.view _ _ (live holds)
      (rw (held, eq-eqb _ _ end) (le-leb seat.view.credits 254 room)) refl,
  laid_load 0 _ holds.laid,
  refl,
)

pub returning : ReturnIsItsEvent
returning state words s count seat holds held some = (
  _,
  enabled state _ s seat.view _ _ (live holds) (rw held (le-leb count seat.view.credits some)) refl,
  laid_total (total_of words - count) (state.total - count) _ holds.laid (ap (λ t. t - count) holds.laid.total),
  refl,
)

pub seeing : SeeIsItsEvent
seeing state words s seat holds idle = (
  _,
  enabled state _ s seat.view _ _ (live holds) (ap is_idle idle) refl,
  laid_load 0 _ holds.laid,
  rw holds.laid.total refl,
)

pub splitting : SplitIsItsEvent
splitting state words s seat holds idle two =
    enabled state _ s seat.view _ _ (live holds) (rw idle (le-leb 2 seat.view.share two)) refl

pub joining : JoinIsItsEvent
joining state words s t seat other holds holds' apart idle idle' =
    let to = λ (v : View).
    after_at state t (λ (w : View). is_idle v.hand && is_idle w.hand) (λ (w : View).
    record state { views = set (set state.views s (joined v w)) t (idle_view 0) }) in
    ap (λ b. cond b None (option_and_then to (live_view state.views s))) (ne_eqb s t apart)
    ∙ ap (option_and_then to) (live holds)
    ∙ enabled state _ t other.view _ _ (live holds') (rw (idle, idle') refl) refl
