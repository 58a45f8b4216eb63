-- What the words leave when they are closed.
use Rattle.std.proofs.Common.{◌≡◌, ◌∙◌, sym, ap, subst, ℕ, zero, suc, ◌<◌}
use Rattle.std.proofs.Common.{List, [], ◌∷◌, ◌++◌, Bool, true, false, inl, inr, length, get_or, arith}
use Rattle.std.proofs.Common.{below_more, length-append}
use Rattle.std.specs.Prelude.{slice_index, slice_get, Any, Some}
use Rattle.std.proofs.lemmas.Bool.{cases_eq}
use Rattle.std.proofs.lemmas.List.{ext_get_or, get_or_append_left}
use Rattle.std.proofs.Math.Seq.{get_or-append_seam}
use Rattle.std.proofs.lemmas.Option.{slice_get-get_or, same_Some}
use mathlib.Core.Option.{some, some-injective, some-ne-none}
use lib.ListN.{get_elem?}
use Rattle.route_walks.specs.declared.graph.ArcRec.{ArcRec}
use Rattle.route_walks.specs.declared.graph.Seed.{Seed}
use Rattle.route_walks.specs.Label.{AreLeast, AreCapped}
use Rattle.route_walks.proofs.Facts.{settled_and_sound_are_least}
use Rattle.csr_graph.specs.Graph.{Graph}
use Rattle.relax_core.specs.declared.views.Hand.TheVariants.{Idle}
use Rattle.relax_core.specs.declared.views.View.{View}
use Rattle.relax_core.specs.declared.views.TheConstants.{SHARES}
use Rattle.relax_core.specs.Views.{HoldsArc}
use Rattle.relax_core.specs.Lawful.{Covers}
use Rattle.relax_core.specs.State.{State, IsLawful, mark_of as is_marked}
use Rattle.relax_core.proofs.Facts.{saw_at, all_at, two_shares, zero_is_least}
use Rattle.label_words.specs.declared.known.Known.{Known}
use Rattle.label_words.specs.Layout.{vertex_count, word_count}
use Rattle.label_words.specs.Rule.{AreLawful}
use Rattle.label_words.specs.Seats.{IsReady}
use Rattle.label_words.specs.Laws.{WordsHold, LawfulWordsHoldACore, UnmarkedPauseIsLeast}
use Rattle.label_words.specs.Paused.{IsPause}
use Rattle.label_words.specs.Closed.{AreLabelsOf, AreMarksOf, IsLabelOf}
use Rattle.label_words.proofs.Keeps.{knows_at, words_hold, renamed}

pub word_is : (words : List ℕ) (i x : ℕ) → get_elem? words i ≡ some x → slice_index words i ≡ x
word_is [] i x e = absurd (some-ne-none x (sym e))
word_is (y ∷ ys) zero x e = some-injective y x e
word_is (y ∷ ys) (suc i) x e = word_is ys i x e

-- a label more was read
pub one_label_more : (words labels : List ℕ) (d : ℕ) → AreLabelsOf words labels → IsLabelOf words (length labels) d
    → AreLabelsOf words (labels ++ d ∷ [])
one_label_more words labels d were is v below =
    below_more (λ v. IsLabelOf words v (slice_index (labels ++ d ∷ []) v)) (length labels)
    (λ v less. rw (get_or_append_left labels (d ∷ []) 0 v less) (were v less))
    (rw (get_or-append_seam labels d [] 0) is) v (omega (arith, length-append labels (d ∷ [])))

-- what closed words tell of the seat that closed them
pub record Ended (me : Known) (words : List ℕ) : Type 0 where
  pub place : ℕ
  pub state : State
  pub lawful : IsLawful me.graph me.seeds state
  pub holds : WordsHold state words place me

pub ended : {graph : Graph} {seeds : List Seed} {words items : List ℕ} {seats : List Known} {me : Known} (id : ℕ)
    → AreLawful graph seeds words seats → get_elem? seats id ≡ some me → words ≡ items → IsReady me
    → Ended me items
ended {seats} {me} id was at same ready =
    let mine = knows_at id was ready at in
    let kept = rw same at (renamed (sym mine.graph_is) (sym mine.seeds_are) was) in
    record { place = id; state = kept.state; lawful = kept.lawful; holds = words_hold id kept ready at }

-- two lists that say the same of all below n
same_said : {X : Type 0} {xs ys : List X} {n : ℕ} {f : ℕ → X} (d : X) → length xs ≡ n → length ys ≡ n
    → ((v : ℕ) → v < n → f v ≡ get_or xs v d) → ((v : ℕ) → v < n → f v ≡ get_or ys v d) → xs ≡ ys
same_said {xs} {ys} {n} d all all' at at' =
    ext_get_or d xs ys (all ∙ sym all') (λ v lt. let below : v < n = omega arith in sym (at v below) ∙ at' v below)

-- the labels that were read are those of the state that the words hold
labels_are : {words : List ℕ} {me : Known} {labels : List ℕ} (end : Ended me words)
    → length labels ≡ me.graph.n → AreLabelsOf words labels → labels ≡ end.state.labels
labels_are end all are =
    same_said 0 all end.holds.labels (λ v lt. sym (are v (omega (arith, all))).0) end.holds.laid.labels

-- where the seat saw the total at 0 they are least
pub least_closed : {words : List ℕ} {me : Known} (labels : List ℕ) → Ended me words
    → length labels ≡ me.graph.n → AreLabelsOf words labels
    → me.view.saw ≡ true → AreLeast me.graph.n me.graph.arcs me.seeds (slice_index labels)
least_closed {me} labels end all are saw =
    let was = end.lawful in
    let capped : AreCapped me.graph.n (slice_index labels) = λ v lt. (are v (omega (arith, all))).1 in
    zero_is_least me.graph me.seeds (slice_index labels) (is_marked end.state.marks) end.state.views
    was.rows capped (rw (labels_are end all are) was.covers) (rw (saw_at was.account end.holds.has saw) at was.account)

-- where one idle seat has all shares, no seat holds an arc
no_holder : {graph : Graph} {seeds : List Seed} {label : ℕ → ℕ} {mark : ℕ → Bool} {views : List View} {v : View}
    {k : ℕ} (s : ℕ) (arc : ArcRec) → Covers graph seeds label mark views → slice_get views s ≡ Some v → v.hand ≡ Idle
    → v.share ≡ SHARES → Any (λ (view : View). HoldsArc label k arc view.hand) views → ⊥
no_holder {label} {views} {v} {k} s arc covers at idle share any =
    let there : slice_get views any.0 ≡ Some any.1 = slice_get-get_or views any.0 any.1 any.2 ∙ ap Some any.3 in
    let hand : any.1.hand ≡ Idle =
    elim (cases_eq s any.0) [
      | inl same ↦ let one = same_Some any.1 v (sym there ∙ ap (slice_get views) (sym same) ∙ at) in rw one idle
      | inr apart ↦
          all_at (λ (view : View). view.share ≡ 0 → view.hand ≡ Idle) views any.0 any.1 covers.spent there
          (omega (arith, two_shares views s any.0 v any.1 at there apart, covers.shares))
    ] in
    subst (HoldsArc label k arc) hand any.4

-- and they are a pause
pub pause_closed : {words : List ℕ} {me : Known} (labels : List ℕ) (marks : List Bool) → Ended me words
    → length labels ≡ me.graph.n → AreLabelsOf words labels → length marks ≡ me.graph.n → AreMarksOf words marks
    → me.view.hand ≡ Idle → me.view.share ≡ SHARES → IsPause me.graph me.seeds record { labels = labels; marks = marks }
pause_closed {me} labels marks end all are all' are' idle share =
    let was = end.lawful in
    let same : marks ≡ end.state.marks =
    same_said false all' end.holds.marks (λ v lt. sym (are' v (omega (arith, all')))) end.holds.laid.marks in
    let capped : AreCapped me.graph.n (slice_index labels) = λ v lt. (are v (omega (arith, all))).1 in
    rw (labels_are end all are, same) record {
      going = record {
        labels = was.labels;
        marks = was.marks;
        waits = λ k arc is.
            elim (was.covers.covered k arc is) [
              | inl relaxed ↦ inl relaxed
              | inr (inl marked) ↦ inr marked
              | inr (inr held) ↦ absurd (no_holder _ arc was.covers end.holds.has.here idle share held)
            ];
      };
      capped = rw (labels_are end all are) at capped;
      sound = was.covers.sound;
      met = was.covers.met;
    }

pub half_of : (words n : ℕ) → words ≡ word_count n → vertex_count words ≡ n
half_of words n e = omega arith

-- what the rule keeps is a lawful core, and no other state is in the words
pub lawful_hold_a_core : LawfulWordsHoldACore
lawful_hold_a_core graph seeds words seats was = (
  was.state,
  was.lawful,
  was.laid,
  was.views_are,
  λ other labels marks laid views.
      let l = same_said 0 labels was.lawful.labels laid.labels was.laid.labels in
      let m = same_said false marks was.lawful.marks laid.marks was.laid.marks in
      let t : other.total ≡ was.state.total = sym laid.total ∙ was.laid.total in
      let v : other.views ≡ was.state.views = views ∙ sym was.views_are in
      λ i. record { labels = l i; marks = m i; total = t i; views = v i },
)

pub unmarked_least : UnmarkedPauseIsLeast
unmarked_least graph seeds rest rows pause unmarked =
    settled_and_sound_are_least graph.n graph.arcs seeds (slice_index rest.labels) pause.capped record {
      met = pause.met;
      relaxed = λ k d lt.
          elim (pause.going.waits k (get_or graph.arcs k d) (slice_get-get_or graph.arcs k d lt)) [
            | inl relaxed ↦ relaxed
            | inr marked ↦ let both = sym marked ∙ unmarked _ (rows.ends k d lt).0 in cc
          ];
    } pause.sound
