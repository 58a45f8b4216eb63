-- If a search from the source and one towards the target meet, the least cost is that of the meeting.
use Rattle.std.proofs.Common.{◌≡◌, ◌∙◌, sym, refl, ap, ℕ, ◌+◌, ◌<◌, ◌≤◌, List, [], ◌∷◌, ◌++◌, Bool, length, get_or, take}
use Rattle.std.proofs.Common.{◌⊎◌, inl, inr, Some, subst, arith}
use Rattle.std.specs.Prelude.{All, Contains, min, slice_index}
use Rattle.std.proofs.lemmas.List.{length-map, get_or-map}
use Rattle.std.proofs.lemmas.List.Elements.{All-nil, All-more, All-map, All-contains, All-contains_itself}
use Rattle.std.proofs.lemmas.Bool.{cases_lt}
use Rattle.std.proofs.lemmas.Option.{slice_get-get_or}
use Rattle.route_walks.specs.declared.graph.ArcRec.{ArcRec}
use Rattle.route_walks.specs.declared.graph.Seed.{Seed}
use Rattle.route_walks.specs.declared.graph.TheConstants.{INF}
use Rattle.route_walks.specs.Walk.{IsArcBelow, IsAttained, IsWalk, HaveSameArcs, cost}
use Rattle.route_walks.specs.Label.{IsMet, IsRelaxed}
use Rattle.route_walks.specs.Limit.{AreLeastToward, AreLeastUpTo, IsLeastToward}
use Rattle.route_walks.specs.Operators.{seeds_from}
use Rattle.route_walks.proofs.Facts.{walk-append, cost-append, attained-over, attained-by_walk, walk-of_attained}
use Rattle.route_walks.proofs.Facts.{settled_up_to_is_least_up_to}
use Rattle.csr_graph.specs.Graph.{Graph, IsInRows, turned, turned_arc}
use Rattle.label_words.specs.Paused.{Rest, IsPause, AreUnmarkedBelow}
use Rattle.near_labels.specs.Noted.{AreDropped, AreNoted}
use Rattle.near_labels.specs.Meeting.{AreAtLeast, FarByLabelsIsPast, IsLeastMeeting, IsToldOf, MeetingIsLeast}

-- each arc of one list stands turned round in the other
abbrev pub AreTurnedAmong : List ArcRec → List ArcRec → Type 0
AreTurnedAmong one other = (arc : ArcRec) → Contains one arc → Contains other (turned_arc arc)

turned-there : (arcs reversed : List ArcRec) → HaveSameArcs reversed (turned arcs) → AreTurnedAmong arcs reversed
turned-there arcs reversed same arc within =
    let k = within.0 in
    (same (turned_arc arc)).1 (
      k,
      omega (arith, within.1, length-map arcs turned_arc),
      get_or-map turned_arc arcs k arc (turned_arc arc) within.1 ∙ ap turned_arc within.2,
    )

turned-reversed : (arcs reversed : List ArcRec) → HaveSameArcs reversed (turned arcs) → AreTurnedAmong reversed arcs
turned-reversed arcs reversed same arc within =
    let Is = λ (a : ArcRec). Contains arcs (turned_arc a) in
    All-contains Is (turned arcs) arc (All-map Is turned_arc arcs (All-contains_itself arcs)) ((same arc).0 within)

-- a walk over arcs is a walk the other way over them turned round, at the same cost
walk-turned : (one other : List ArcRec) → AreTurnedAmong one other → (u v : ℕ) (walk : List ArcRec) → IsWalk one u walk v
    → (way : List ArcRec) × IsWalk other v way u × (cost way ≡ cost walk)
walk-turned one other turn u v [] walks = ([], sym walks, refl)
walk-turned one other turn u v (arc ∷ walk) walks =
    let rest = walk-turned one other turn arc.head v walk walks.2 in
    let last = turned_arc arc ∷ [] in (
      rest.0 ++ last,
      walk-append other v arc.head u rest.0 last rest.1 (turn arc walks.0, refl, walks.1),
      omega (arith, cost-append rest.0 last, rest.2),
    )

-- the cost of each walk to the target is attained at its start, over the arcs turned round
walk-attained : (arcs reversed : List ArcRec) → HaveSameArcs reversed (turned arcs) → (u t : ℕ) (walk : List ArcRec)
    → IsWalk arcs u walk t → IsAttained reversed (seeds_from t) u (cost walk)
walk-attained arcs reversed same u t walk walks =
    let way = walk-turned arcs reversed (turned-there arcs reversed same) u t walk walks in
    subst (IsAttained reversed (seeds_from t) u) way.2 (attained-by_walk reversed t u way.0 way.1)

-- what is attained on both sides of a vertex is attained at the target
meeting-attained : (arcs reversed : List ArcRec) → HaveSameArcs reversed (turned arcs) → (s t v c d e : ℕ)
    → IsAttained arcs (seeds_from s) v c → IsAttained reversed (seeds_from t) v d → c + d ≡ e
    → IsAttained arcs (seeds_from s) t e
meeting-attained arcs reversed same s t v c d e forward backward sum =
    let way = walk-of_attained reversed t v d backward in
    let along = walk-turned reversed arcs (turned-reversed arcs reversed same) t v way.0 way.1 in
    let total : c + cost along.0 ≡ e = omega (arith, along.2, way.2, sum) in
    subst (IsAttained arcs (seeds_from s) t) total (attained-over arcs (seeds_from s) v t c along.0 forward along.1)

-- an arc is relaxed, or its tail has a label of at least low
arc-waits : (graph : Graph) (s low : ℕ) (forward : Rest) → IsInRows graph → IsPause graph (seeds_from s) forward
    → AreUnmarkedBelow low forward → (arc : ArcRec) → Contains graph.arcs arc
    → IsRelaxed (slice_index forward.labels) arc ⊎ (low ≤ slice_index forward.labels arc.tail)
arc-waits graph s low forward rows pause unmarked arc within =
    let ends = All-contains (IsArcBelow graph.n) graph.arcs arc rows.ends within in
    elim (pause.going.waits within.0 arc (slice_get-get_or graph.arcs within.0 arc within.1 ∙ ap Some within.2)) [
      | inl relaxed ↦ inl relaxed
      | inr marked ↦ inr (unmarked arc.tail (omega (arith, ends.0, pause.going.marks)) marked)
    ]

-- no walk from a vertex on to the target makes less, with what its label allows
meets-along : (graph : Graph) (reversed : List ArcRec) (s t low high c : ℕ) (forward : Rest) (backward : ℕ → ℕ)
    → IsInRows graph → HaveSameArcs reversed (turned graph.arcs) → IsPause graph (seeds_from s) forward
    → AreUnmarkedBelow low forward
    → ((v : ℕ) → v < graph.n → (e : ℕ) → IsAttained reversed (seeds_from t) v e → (backward v ≤ e) ⊎ (high ≤ e))
    → ((v : ℕ) → v < graph.n → c ≤ slice_index forward.labels v + backward v)
    → c ≤ low + high → backward t ≡ 0
    → (u b : ℕ) (walk : List ArcRec) → u < graph.n → slice_index forward.labels u ≤ b → IsWalk graph.arcs u walk t
    → c ≤ b + cost walk
meets-along graph reversed s t low high c forward backward rows same pause unmarked up least sum zero u b [] below from walks =
    omega (arith, least u below, ap backward walks, zero, from)
meets-along graph reversed s t low high c forward backward rows same pause unmarked up least sum zero u b (arc ∷ walk) below from walks =
    elim (up u below (cost (arc ∷ walk)) (walk-attained graph.arcs reversed same u t (arc ∷ walk) walks)) [
      | inl near ↦ omega (arith, near, least u below, from)
      | inr far ↦
          let start : slice_index forward.labels arc.tail ≤ b =
          subst (λ (x : ℕ). slice_index forward.labels x ≤ b) (sym walks.1) from in
          let ends = All-contains (IsArcBelow graph.n) graph.arcs arc rows.ends walks.0 in
          elim (arc-waits graph s low forward rows pause unmarked arc walks.0) [
            | inl relaxed ↦
                let rest =
                meets-along graph reversed s t low high c forward backward rows same pause unmarked up least sum zero arc.head
                (b + arc.weight) walk ends.1 (omega (arith, relaxed, start)) walks.2 in
                omega (arith, rest)
            | inr waits ↦ omega (arith, far, waits, start, sum)
          ]
    ]

-- a pause is least up to the lowest label that is marked and the weight of an arc
pause-offers : (graph : Graph) (seeds : List Seed) (low least : ℕ) (rest : Rest) → IsInRows graph → AreAtLeast least graph.arcs
    → IsPause graph seeds rest → AreUnmarkedBelow low rest
    → AreLeastUpTo (low + least) graph.n graph.arcs seeds (slice_index rest.labels)
pause-offers graph seeds low least rest rows weigh pause unmarked =
    settled_up_to_is_least_up_to (low + least) graph.n graph.arcs seeds (slice_index rest.labels) pause.capped (record {
      met = pause.met;
      relaxed = λ k d lt.
          let arc = get_or graph.arcs k d in
          elim (pause.going.waits k arc (slice_get-get_or graph.arcs k d lt)) [
            | inl relaxed ↦ inl relaxed
            | inr marked ↦
                inr (omega (
                  arith,
                  unmarked arc.tail (omega (arith, (rows.ends k d lt).0, pause.going.marks)) marked,
                  weigh k d lt,
                ))
          ];
    }) pause.sound

-- the least sum where two pauses meet is least, if what waits makes no lower one
pub meeting_is_least : MeetingIsLeast
meeting_is_least graph reversed s t low high least c forward backward rows rows' turn weigh s-in t-in pause pause' unmarked unmarked'
    meeting sum =
    let far = pause-offers reversed (seeds_from t) high least backward rows' weigh pause' unmarked' in
    let zero : slice_index backward.labels t ≡ 0 =
    omega (arith, All-contains (IsMet (slice_index backward.labels)) (seeds_from t) (record { vertex = t; start = 0 }) pause'.met (0, omega arith, refl)) in
    let begins : slice_index forward.labels s ≡ 0 =
    omega (arith, All-contains (IsMet (slice_index forward.labels)) (seeds_from s) (record { vertex = s; start = 0 }) pause.met (0, omega arith, refl)) in
    record {
      capped = meeting.capped;
      attained = λ found.
          let at = meeting.met found in
          meeting-attained graph.arcs reversed.arcs turn.arcs s t at.0 _ _ c
          (pause.sound at.0 at.1 (omega (arith, found, at.2)))
          (pause'.sound at.0 (omega (arith, at.1, turn.vertices)) (omega (arith, found, at.2))) at.2;
      least = λ d attained.
          let walk = walk-of_attained graph.arcs s t d attained in
          let most =
          meets-along graph reversed.arcs s t low (high + least) c forward (slice_index backward.labels) rows turn.arcs pause unmarked
          (λ v below e there. (far v (omega (arith, below, turn.vertices))).least e there) meeting.low (omega (arith, sum)) zero
          s 0 walk.0 s-in (omega (arith, begins)) walk.1 in
          omega (arith, most, walk.2);
    }

-- a label towards the target, or what is lowest there of those that wait with an arc, is what a walk costs at least
pub far_by_labels_is_past : FarByLabelsIsPast
far_by_labels_is_past graph reversed t low least backward rows' turn weigh pause' unmarked limit v d below far-by walk walks =
    let far = pause-offers reversed (seeds_from t) low least backward rows' weigh pause' unmarked in
    elim ((far v (omega (arith, below, turn.vertices))).least (cost walk)
    (walk-attained graph.arcs reversed.arcs turn.arcs v t walk walks)) [
      | inl near ↦ omega (arith, far-by, near)
      | inr past ↦ omega (arith, far-by, past)
    ]

-- labels stay least on the way to t if those past the limit are dropped
pub dropped-toward : (limit low : ℕ) (graph : Graph) (seeds : List Seed) (t but : ℕ) (other old new : List ℕ)
    → AreLeastToward limit graph.n graph.arcs seeds t (slice_index old)
    → IsToldOf graph t other low
    → AreDropped but limit low other old new
    → AreLeastToward limit graph.n graph.arcs seeds t (slice_index new)
dropped-toward limit low graph seeds t but other old new least told dropped v below =
    elim (dropped v) [
      | inl same ↦ subst (IsLeastToward limit graph.arcs seeds t v) (sym same) (least v below)
      | inr gone ↦ record {
        capped = omega (arith, gone.1);
        attained = λ found. absurd (omega (arith, found, gone.1));
        least = λ c attained.
            inr (λ walk walks.
            elim ((least v below).least c attained) [
              | inl low' ↦ omega (arith, told limit v (slice_index old v) below gone.0 walk walks, low')
              | inr far ↦ far walk walks
            ]);
      }
    ]

-- and t itself keeps its label if it is reached below the limit
pub dropped-target : (limit low : ℕ) (graph : Graph) (t but : ℕ) (other old new : List ℕ) → t < graph.n
    → slice_index old t ≤ INF
    → min (slice_index old t + 1) INF ≤ limit
    → IsToldOf graph t other low
    → AreDropped but limit low other old new
    → slice_index new t ≡ slice_index old t
dropped-target limit low graph t but other old new below capped above told dropped =
    elim (dropped t) [
      | inl same ↦ same
      | inr gone ↦ omega (arith, gone.1, capped, above, told limit t (slice_index old t) below gone.0 [] refl)
    ]

-- what is past the limit once labels were dropped was so before
pub dropped-far : (but limit low : ℕ) (other old new : List ℕ)
    → AreDropped but limit low other old new
    → (v : ℕ) → limit ≤ slice_index new v + min (slice_index other v) low
    → limit ≤ slice_index old v + min (slice_index other v) low
dropped-far but limit low other old new dropped v far =
    elim (dropped v) [
      | inl same ↦ omega (arith, far, same)
      | inr gone ↦ gone.0
    ]

-- labels dropped in two steps are dropped
pub dropped-more : (but limit low : ℕ) (other old between new : List ℕ)
    → AreDropped but limit low other old between
    → AreDropped but limit low other between new
    → AreDropped but limit low other old new
dropped-more but limit low other old between new first second v =
    elim (second v) [
      | inl same ↦
          elim (first v) [
            | inl kept ↦ inl (same ∙ kept)
            | inr gone ↦ inr (gone.0, same ∙ gone.1, gone.2)
          ]
      | inr gone ↦
          inr (dropped-far but limit low other old between first v gone.0, gone.1, gone.2)
    ]

-- the least that the two labels of some vertices make, or INF
pub record IsLeastSeen (n : ℕ) (forward backward : ℕ → ℕ) (seen : List ℕ) (least : ℕ) : Type 0 where
  pub capped : least ≤ INF
  pub low : All (λ v. least ≤ forward v + backward v) seen
  pub met : least < INF → (v : ℕ) × (v < n) × (forward v + backward v ≡ least)

-- nothing is seen yet
pub seen-none : (n : ℕ) (forward backward : ℕ → ℕ) → IsLeastSeen n forward backward [] INF
seen-none n forward backward = record {
  capped = omega arith;
  low = All-nil _;
  met = λ less. absurd (omega (arith, less));
}

-- one vertex more is seen
pub seen-more : (n : ℕ) (forward backward : ℕ → ℕ) (noted : List ℕ) (k : ℕ) (least next : ℕ) → k < length noted
    → get_or noted k 0 < n
    → IsLeastSeen n forward backward (take k noted) least
    → next ≡ min (min (forward (get_or noted k 0) + backward (get_or noted k 0)) INF) least
    → IsLeastSeen n forward backward (take (k + 1) noted) next
seen-more n forward backward noted k least next here below before is =
    let v = get_or noted k 0 in
    record {
      capped = omega (arith, is, before.capped);
      low =
          All-more (λ (w : ℕ). next ≤ forward w + backward w) noted k 0 here
          (λ j e lt. omega (arith, is, before.low j e lt)) (omega (arith, is));
      met = λ less.
          elim (cases_lt (forward v + backward v) least) [
            | inl lower ↦ (v, below, omega (arith, is, lower, before.capped))
            | inr other ↦
                let same : next ≡ least = omega (arith, is, other, before.capped, less) in
                let at = before.met (omega (arith, same, less)) in
                (at.0, at.1, at.2 ∙ sym same)
          ];
    }

-- once all that is noted is seen, the least of it is the least there is
pub seen-all : (labels : List ℕ) (marks : List Bool) (noted : List ℕ) (backward : ℕ → ℕ) (least : ℕ)
    → AreNoted labels marks noted
    → IsLeastSeen (length labels) (slice_index labels) backward noted least
    → IsLeastMeeting (length labels) (slice_index labels) backward least
seen-all labels marks noted backward least are seen = record {
  capped = seen.capped;
  low = λ v below.
      elim (are.others v below) [
        | inl within ↦ All-contains (λ (w : ℕ). least ≤ slice_index labels w + backward w) noted v seen.low within
        | inr blank ↦ omega (arith, blank.0, seen.capped)
      ];
  met = seen.met;
}
