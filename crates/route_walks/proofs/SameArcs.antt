-- More arcs leave all walks and attained numbers; lists with the same arcs have the same walks, attained numbers and
-- least labels.
use Rattle.std.proofs.Common.{ℕ, List, [], ◌∷◌}
use Rattle.std.specs.List.{Contains}
use Rattle.route_walks.specs.declared.graph.ArcRec.{ArcRec}
use Rattle.route_walks.specs.declared.graph.Seed.{Seed}
use Rattle.route_walks.specs.Walk.{IsWalk, IsAttained}
use Rattle.route_walks.specs.Label.{LeastLabelsFollowTheArcs}

-- each arc of one list is an arc of the other
abbrev pub AreAmong : List ArcRec → List ArcRec → Type 0
AreAmong one other = (arc : ArcRec) → Contains one arc → Contains other arc

walk-among : (one other : List ArcRec) → AreAmong one other → (u v : ℕ) (walk : List ArcRec) → IsWalk one u walk v
    → IsWalk other u walk v
walk-among one other among u v [] walks = walks
walk-among one other among u v (arc ∷ walk) walks =
    (among arc walks.0, walks.1, walk-among one other among arc.head v walk walks.2)

-- what is attained along some arcs is attained along more
pub attained-among : (one other : List ArcRec) → AreAmong one other → (seeds : List Seed) (v c : ℕ)
    → IsAttained one seeds v c → IsAttained other seeds v c
attained-among one other among seeds v c attained = record {
  seed = attained.seed;
  walk = attained.walk;
  seeded = attained.seeded;
  walks = walk-among one other among attained.seed.vertex v attained.walk attained.walks;
  costs = attained.costs;
}

pub least_labels_follow_the_arcs : LeastLabelsFollowTheArcs
least_labels_follow_the_arcs n one other seeds labels same labelled = record {
  count = labelled.count;
  least = λ v below.
      let here = labelled.least v below in
      record {
        capped = here.capped;
        attained = λ found. attained-among one other (λ arc. (same arc).0) seeds v _ (here.attained found);
        least = λ c attained. here.least c (attained-among other one (λ arc. (same arc).1) seeds v c attained);
      };
}
