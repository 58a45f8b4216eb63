-- A run that goes on from a pause: its words are lawful, and it ends as from the pause's own seeds.
use Rattle.std.proofs.Common.{◌≡◌, refl, ap, ℕ, ◌<◌, ◌≤◌, List, [], ◌∷◌, true, false}
use Rattle.std.proofs.Common.{length, get_or, arith, inl, inr}
use Rattle.std.specs.Prelude.{slice_index, All}
use Rattle.std.proofs.lemmas.Bool.{cases_lt}
use Rattle.std.proofs.lemmas.List.Elements.{All-nil, All-cons, All-contains}
use Rattle.route_walks.specs.declared.graph.TheConstants.{INF}
use Rattle.route_walks.specs.Operators.{seed_of, seeds_of}
use Rattle.route_walks.specs.Label.{IsMet, AreCapped}
use Rattle.route_walks.proofs.Facts.{attained-start, labels-have_seed, labels-meet_their_seeds}
use Rattle.route_walks.proofs.Facts.{attained-from_labels, labels_serve_as_seeds}
use Rattle.csr_graph.specs.Graph.{Graph, IsInRows}
use Rattle.relax_core.specs.declared.views.Hand.TheVariants.{Idle}
use Rattle.relax_core.specs.declared.views.View.{View}
use Rattle.relax_core.specs.declared.views.TheConstants.{SHARES}
use Rattle.relax_core.specs.Views.{IsHand, HasCredits, idle_view}
use Rattle.relax_core.specs.Lawful.{marks_below}
use Rattle.relax_core.specs.State.{IsLawful, mark_of}
use Rattle.label_words.specs.declared.closed.Closed.TheVariants.{Settled, Paused}
use Rattle.label_words.specs.Paused.{Rest, CanGoOn}
use Rattle.label_words.specs.Closed.{AreNoHigher}
use Rattle.label_words.specs.Layout.{label_of}
use Rattle.label_words.specs.Known.{first_known}
use Rattle.label_words.specs.Rule.{IsLaid, AreLawful}
use Rattle.label_words.specs.Sown.{state_of}
use Rattle.label_words.specs.Laws.{ResumedRunsEndAlike}
use Rattle.label_words.proofs.Sowing.{first_knows}

-- the state that a run goes on with is lawful, with the seeds of its labels
pub rest_lawful : (graph : Graph) (rest : Rest) → IsInRows graph → CanGoOn graph rest
    → IsLawful graph (seeds_of rest.labels) (state_of rest)
rest_lawful graph rest rows going =
    let label = slice_index rest.labels in
    let seeds = seeds_of rest.labels in
    let one : (P : View → Type 0) → P (idle_view SHARES) → All P (idle_view SHARES ∷ []) =
    λ P p. All-cons P (idle_view SHARES) [] p (All-nil P) in
    record {
      rows = rows;
      labels = going.labels;
      marks = going.marks;
      covers = record {
        sound = λ v lt finite.
            attained-start graph.arcs seeds (seed_of label v)
            (labels-have_seed rest.labels v (omega (arith, going.labels)) finite);
        met = labels-meet_their_seeds rest.labels;
        covered = λ k arc is.
            elim (going.waits k arc is) [
              | inl relaxed ↦ inl relaxed
              | inr marked ↦ inr (inl marked)
            ];
        hands = one (λ (view : View). IsHand graph seeds label view.hand) tt;
        shares = refl;
        spent = one (λ (view : View). view.share ≡ 0 → view.hand ≡ Idle) (λ none. refl);
      };
      account = record {
        balance = omega (arith, ap (marks_below (mark_of rest.marks)) going.labels);
        credits = one (λ (view : View). HasCredits view.hand view.credits) refl;
        saw = one (λ (view : View). view.saw ≡ true → (state_of rest).total ≡ 0) (λ saw. cc);
        spent = one (λ (view : View). view.share ≡ 0 → view.saw ≡ false) (λ none. refl);
      };
    }

-- words that hold it keep the rule with the first seat
pub rest_words_lawful : (graph : Graph) (rest : Rest) (words : List ℕ) → IsInRows graph → CanGoOn graph rest
    → IsLaid (state_of rest) graph.n words
    → AreLawful graph (seeds_of rest.labels) words (first_known graph (seeds_of rest.labels) ∷ [])
rest_words_lawful graph rest words rows going laid = record {
  state = state_of rest;
  lawful = rest_lawful graph rest rows going;
  laid = laid;
  views_are = refl;
  knows = λ s seat at live. first_knows graph (seeds_of rest.labels) (label_of words) s seat at;
}

-- labels that are capped and at most the old ones below INF are no higher
no_higher : (new old : List ℕ) → AreCapped (length old) (slice_index new)
    → ((v : ℕ) → v < length old → slice_index old v < INF → slice_index new v ≤ slice_index old v)
    → AreNoHigher new old
no_higher new old capped lower v below =
    elim (cases_lt (slice_index old v) INF) [
      | inl finite ↦ lower v below finite
      | inr large ↦ omega (arith, large, capped v below)
    ]

pub resumed_runs_end_alike : ResumedRunsEndAlike
resumed_runs_end_alike graph seeds rest (Settled labels) within pause end =
    let old = rest.labels in
    let going = pause.going in
    let serve = labels_serve_as_seeds graph.n graph.arcs seeds old labels.items within going.labels pause.sound
    pause.met in
    let lower = no_higher labels.items old
    (λ v lt. (end.least v (omega (arith, going.labels))).capped)
    (λ v lt finite.
    (end.least v (omega (arith, going.labels))).least (slice_index old v)
    (attained-start graph.arcs (seeds_of old) (seed_of (slice_index old) v) (labels-have_seed old v lt finite))) in
    (serve.0 end, lower)
resumed_runs_end_alike graph seeds rest (Paused last) within pause end =
    let old = rest.labels in
    let lower = no_higher last.labels old
    (λ v lt. end.capped v (omega (arith, pause.going.labels)))
    (λ v lt finite.
    All-contains (IsMet (slice_index last.labels)) (seeds_of old) (seed_of (slice_index old) v) end.met
    (labels-have_seed old v lt finite)) in (
      record {
        going = end.going;
        capped = end.capped;
        sound = λ v lt finite.
            attained-from_labels graph.n graph.arcs seeds rest.labels within pause.going.labels pause.sound pause.met v
            _
            (end.sound v lt finite);
        met = λ k d lt.
            let seed = get_or seeds k d in
            let below : seed.vertex < length rest.labels = omega (arith, within k d lt, pause.going.labels) in
            omega (arith, pause.met k d lt, lower seed.vertex below);
      },
      lower,
    )
