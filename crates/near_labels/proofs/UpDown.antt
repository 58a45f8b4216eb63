-- Searches from both ends, each over its own graph, find the least sum where they meet.
use Rattle.std.proofs.Common.{ℕ, ◌<◌, List, [], ◌∷◌, subst, arith, inl, inr}
use Rattle.std.specs.Prelude.{slice_index}
use Rattle.std.proofs.lemmas.List.Elements.{All-contains}
use Rattle.route_walks.specs.declared.graph.ArcRec.{ArcRec}
use Rattle.route_walks.specs.Walk.{IsArcBelow, IsGraph, IsWalk, cost}
use Rattle.route_walks.specs.Operators.{seeds_from}
use Rattle.route_walks.proofs.Facts.{attained-by_walk, walk-of_attained}
use Rattle.label_words.specs.Laws.{PausesAreLeastUpTo}
use Rattle.near_labels.specs.UpDown.{MeetingAboveIsLeast}

-- a walk ends at a vertex
walk-end : (n : ℕ) (arcs : List ArcRec) → IsGraph n arcs → (u v : ℕ) (walk : List ArcRec) → u < n
    → IsWalk arcs u walk v → v < n
walk-end n arcs graph u v [] below walks = subst (λ (x : ℕ). x < n) walks below
walk-end n arcs graph u v (arc ∷ walk) below walks =
    walk-end n arcs graph arc.head v walk (All-contains (IsArcBelow n) arcs arc graph walks.0).1 walks.2

pub meeting_above_is_least : PausesAreLeastUpTo → MeetingAboveIsLeast
meeting_above_is_least up-to up down s t low high d forward backward rows rows' same s-in t-in pause pause' unmarked unmarked' least below below' =
    let near = up-to low up (seeds_from s) forward rows pause unmarked in
    let near' = up-to high down (seeds_from t) backward rows' pause' unmarked' in
    record {
      capped = least.capped;
      met = λ found.
          let at = least.met found in
          let rise =
          walk-of_attained up.arcs s at.0 _ (pause.sound at.0 at.1 (omega (arith, found, at.2))) in
          let fall =
          walk-of_attained down.arcs t at.0 _
          (pause'.sound at.0 (omega (arith, at.1, same)) (omega (arith, found, at.2))) in
          record {
            top = at.0;
            rise = slice_index forward.labels at.0;
            fall = slice_index backward.labels at.0;
            up = record { walk = rise.0; walks = rise.1; cheap = omega (arith, rise.2) };
            down = record { walk = fall.0; walks = fall.1; cheap = omega (arith, fall.2) };
            cheap = omega (arith, at.2);
          };
      least = λ c climbs.
          let x = climbs.top in
          let inside : x < up.n = walk-end up.n up.arcs rows.ends s x climbs.up.walk s-in climbs.up.walks in
          let sum = least.low x inside in
          elim ((near.least x inside).least (cost climbs.up.walk)
          (attained-by_walk up.arcs s x climbs.up.walk climbs.up.walks)) [
            | inr far ↦ omega (arith, far, below, climbs.up.cheap, climbs.cheap)
            | inl low-up ↦
                elim ((near'.least x (omega (arith, inside, same))).least (cost climbs.down.walk)
                (attained-by_walk down.arcs t x climbs.down.walk climbs.down.walks)) [
                  | inr far ↦ omega (arith, far, below', climbs.down.cheap, climbs.cheap)
                  | inl low-down ↦
                      omega (arith, low-up, low-down, sum, climbs.up.cheap, climbs.down.cheap, climbs.cheap)
                ]
          ];
    }
