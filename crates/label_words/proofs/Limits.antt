-- A pause from whose marked vertices each walk to a vertex makes a limit is least up to the limit on that way. So one whose
-- marked vertices have labels of at least a limit is least up to it.
use Rattle.std.proofs.Common.{get_or, arith, inl, inr}
use Rattle.std.specs.Prelude.{◌∷◌, slice_index}
use Rattle.std.proofs.lemmas.List.Elements.{Contains-get_or}
use Rattle.std.proofs.lemmas.Option.{slice_get-get_or}
use Rattle.std.proofs.Common.{refl}
use Rattle.route_walks.proofs.Facts.{settled_toward_is_least_toward, least_toward_is_least_up_to, least_up_to_is_least}
use Rattle.label_words.specs.Laws.{FarPausesAreLeast, PausesAreLeastToward, PausesAreLeastUpTo}

pub pauses_are_least_toward : PausesAreLeastToward
pauses_are_least_toward limit graph seeds t rest rows pause past =
    settled_toward_is_least_toward limit graph.n graph.arcs seeds t (slice_index rest.labels) pause.capped (record {
      met = pause.met;
      relaxed = λ k d lt.
          let arc = get_or graph.arcs k d in
          elim (pause.going.waits k arc (slice_get-get_or graph.arcs k d lt)) [
            | inl relaxed ↦ inl relaxed
            | inr marked ↦
                inr (λ walk walks.
                omega (
                  arith,
                  past arc.tail (rows.ends k d lt).0 marked (arc ∷ walk)
                      (Contains-get_or graph.arcs k d lt, refl, walks),
                ))
          ];
    }) pause.sound

pub pauses_are_least_up_to : PausesAreLeastUpTo
pauses_are_least_up_to limit graph seeds rest rows pause unmarked =
    record {
      count = pause.going.labels;
      least = λ v below.
          least_toward_is_least_up_to limit graph.arcs seeds v _
          (pauses_are_least_toward limit graph seeds v rest rows pause
          (λ w within marked walk walks.
          omega (arith, unmarked w (omega (arith, within, pause.going.marks)) marked)) v below);
    }

pub far_pauses_are_least : FarPausesAreLeast
far_pauses_are_least limit graph seeds bounds rest rows pause are far within near =
    λ k d lt.
    let t = get_or bounds.targets.now k d in
    least_up_to_is_least limit graph.arcs seeds t _ (least_toward_is_least_up_to limit graph.arcs seeds t _
    (pauses_are_least_toward limit graph seeds t rest rows pause
    (λ v below marked. far v (omega (arith, below, pause.going.marks)) marked graph are below k d lt) t (within k d lt)))
    (near k d lt)
