-- A pause, with a mark at the tail of each added arc, is a pause of the grown graph.
use Rattle.std.proofs.Common.{◌≡◌, ◌∙◌, sym, ap, ℕ, ◌⊎◌, List, Bool, true, inl, inr, arith}
use Rattle.std.specs.Prelude.{◌==◌, ◌||◌, Some, slice_index}
use Rattle.std.specs.List.{Contains, list_any}
use Rattle.std.proofs.Math.Bool.{or-true}
use Rattle.std.proofs.lemmas.Bool.{eq-eqb}
use Rattle.std.proofs.lemmas.List.Elements.{Contains-append_left, Contains-append_cases}
use Rattle.std.proofs.lemmas.List.Folds.{list_any_at}
use Rattle.std.proofs.lemmas.Option.{get_or_from_slice_get, slice_get_within, slice_get-get_or}
use Rattle.route_walks.specs.declared.graph.ArcRec.{ArcRec}
use Rattle.route_walks.specs.declared.graph.Seed.{Seed}
use Rattle.route_walks.specs.Label.{IsRelaxed}
use Rattle.route_walks.proofs.Facts.{attained-among}
use Rattle.csr_graph.specs.Graph.{Graph}
use Rattle.relax_core.specs.State.{mark_of}
use Rattle.label_words.specs.Paused.{IsPause, Rest}
use Rattle.obim_engine.specs.Grown.{IsGrown, TailsAreMarked}

abbrev leaves : ℕ → ArcRec → Bool
leaves v arc = arc.tail == v

module _ (graph grown : Graph) (seeds : List Seed) (added : List ArcRec) (rest new : Rest)
    (same : new.labels ≡ rest.labels) (marked : TailsAreMarked added rest.marks new.marks)
    (pause : IsPause graph seeds rest) (grows : IsGrown graph added grown) where
  stays_marked : (v : ℕ) → mark_of rest.marks v ≡ true → mark_of new.marks v ≡ true
  stays_marked v was = marked.marks v ∙ ap (λ b. b || list_any (leaves v) added) was

  tail_marked : (arc : ArcRec) → Contains added arc → mark_of new.marks arc.tail ≡ true
  tail_marked arc (k, lt, is) =
      let leaves_it = eq-eqb _ _ (ap (λ (a : ArcRec). a.tail) is) in
      let any = list_any_at (leaves arc.tail) added k arc lt leaves_it in
      marked.marks arc.tail ∙ ap (λ b. mark_of rest.marks arc.tail || b) any ∙ or-true (mark_of rest.marks arc.tail)

  -- an arc that the graph had still waits
  still_waits : (arc : ArcRec) → Contains graph.arcs arc
      → IsRelaxed (slice_index rest.labels) arc ⊎ (mark_of new.marks arc.tail ≡ true)
  still_waits arc (k, lt, is) =
      elim (pause.going.waits k arc (slice_get-get_or graph.arcs k arc lt ∙ ap Some is)) [
        | inl relaxed ↦ inl relaxed
        | inr was ↦ inr (stays_marked arc.tail was)
      ]

  pub grown_pause : IsPause grown seeds new
  grown_pause =
      rw same
      (record {
        going = record {
          labels = pause.going.labels ∙ sym grows.vertices;
          marks = marked.count ∙ pause.going.marks ∙ sym grows.vertices;
          waits = λ k arc is.
              let there : Contains grown.arcs arc =
              (k, slice_get_within grown.arcs k arc is, get_or_from_slice_get grown.arcs k arc arc is) in
              elim (Contains-append_cases graph.arcs added arc ((grows.arcs arc).0 there)) [
                | inl was ↦ still_waits arc was
                | inr is_new ↦ inr (tail_marked arc is_new)
              ];
        };
        capped = λ v lt. pause.capped v (omega (arith, grows.vertices));
        sound = λ v lt finite.
            attained-among graph.arcs grown.arcs
            (λ arc within. (grows.arcs arc).1 (Contains-append_left graph.arcs added arc within)) seeds v _
            (pause.sound v (omega (arith, grows.vertices)) finite);
        met = pause.met;
      })
