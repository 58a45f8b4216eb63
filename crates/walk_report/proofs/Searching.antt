-- What breadth-first search keeps, and why its hops are fewest at the end.
use Rattle.std.proofs.Common.{◌≡◌, ◌∙◌, ℕ, ◌+◌, ◌<◌, ◌≤◌, List, [], ◌∷◌, ◌++◌, length, slice_index, set}
use Rattle.std.proofs.Common.{replicate, cond, eqb, sym, ap, refl, arith, inl, inr, below_more}
use Rattle.std.specs.List.{All, Contains, count_by}
use Rattle.std.proofs.lemmas.List.{get_or-set_same, get_or-set_other, length-set, get_or_append_left, get_or_push}
use Rattle.std.proofs.lemmas.List.{length_push, get_or-replicate, length-replicate}
use Rattle.std.proofs.lemmas.Grind.{get_or-set_at}
use Rattle.std.proofs.lemmas.List.Elements.{All-contains, All-nil, All-tail}
use Rattle.std.proofs.lemmas.List.Sums.{sum_by-set}
use Rattle.std.proofs.lemmas.List.Folds.{sum_by-replicate}
use Rattle.std.proofs.lemmas.Bool.{cases_lt, cases_eq}
use Rattle.std.proofs.lemmas.Bool.Decides.{nat_tests}
use Rattle.route_walks.specs.declared.graph.ArcRec.{ArcRec}
use Rattle.route_walks.specs.declared.graph.TheConstants.{INF, MAX_VERTICES}
use Rattle.route_walks.specs.Walk.{IsArcBelow, IsGraph, IsWalk, cost}
use Rattle.route_walks.specs.Limit.{AreLeastLabelsUpTo}
use Rattle.route_walks.specs.Operators.{seeds_from}
use Rattle.route_walks.proofs.Facts.{walk-of_attained}
use Rattle.walk_report.specs.declared.hop.TheConstants.{NONE}
use Rattle.walk_report.specs.Hop.{AreHopsBelow}
use Rattle.walk_report.specs.Parent.{Leads}
use Rattle.walk_report.specs.Search.{IsTightBelow, IsReached, IsVisited, IsSearch, HasTightWalk}
use Rattle.walk_report.specs.Toward.{AreTightHops}
use Rattle.walk_report.proofs.LeastWalks.{label-le-cost, hop-over}

-- one vertex fewer has no hop
count-set : (hops : List ℕ) (v h : ℕ) → v < length hops → slice_index hops v ≡ NONE → h < NONE
    → count_by (λ hop. eqb hop NONE) (set hops v h) + 1 ≡ count_by (λ hop. eqb hop NONE) hops
count-set hops v h below unset small =
    grind (arith, nat_tests, sum_by-set (λ hop. cond (eqb hop NONE) 1 0) hops v h 0 below)

-- only s has a hop, and stands in the queue
pub search-start : (limit n : ℕ) (arcs : List ArcRec) (label : ℕ → ℕ) (s : ℕ) → s < n → 0 < limit → label s ≡ 0
    → IsSearch limit n arcs label (set (replicate n NONE) s 0) (s ∷ []) 0
search-start limit n arcs label s below some zero_label =
    let none = replicate n NONE in
    let long : length none ≡ n = length-replicate n NONE in
    let here : slice_index (set none s 0) s ≡ 0 = get_or-set_same none s 0 0 (omega arith) in
    let others : (v : ℕ) → v < n → (v ≡ s → ⊥) → slice_index (set none s 0) v ≡ NONE =
    λ v lt other. get_or-set_other none s v 0 0 other ∙ get_or-replicate n v NONE 0 lt in
    let all : count_by (λ hop. eqb hop NONE) none ≡ n =
    sum_by-replicate (λ hop. cond (eqb hop NONE) 1 0) n NONE ∙ omega arith in
    record {
      vertices = length-set none s 0 ∙ long;
      room =
          omega (
            arith,
            all,
            count-set none s 0 (omega arith) (get_or-replicate n s NONE 0 below) (omega arith),
          );
      fits = λ v lt. grind (arith, others v lt, here);
      found = λ k lt.
          let is : k ≡ 0 = omega arith in
          rw is (record {
            vertex = below;
            early = omega arith;
            walk = record {
              walk = record { walk = []; walks = refl; costs = sym zero_label; count = sym here };
              tight = All-nil (IsTightBelow limit label);
            };
            low = omega (arith, some, zero_label);
          });
      rising = λ k lt. absurd (omega arith);
      near = λ k lt _. let is : k ≡ 0 = omega arith in rw is (omega arith);
      queued = λ v lt some. (0, omega arith, grind (arith, others v lt));
      visited = λ k lt. absurd (omega arith);
    }

-- one more than the hop of the next vertex is a hop
pub search-small : {limit n : ℕ} {arcs : List ArcRec} {label : ℕ → ℕ} {hops queue : List ℕ} {next : ℕ}
    → IsSearch limit n arcs label hops queue next → n ≤ MAX_VERTICES → next < length queue
    → slice_index hops (slice_index queue next) + 1 < NONE
search-small {next = next} search few place = omega (arith, (search.found next place).early, search.room)

-- a vertex that a walk by the next one reaches gets a hop and is queued
pub search-push : {limit n : ℕ} {arcs : List ArcRec} {label : ℕ → ℕ} {hops queue : List ℕ} {next : ℕ}
    → IsSearch limit n arcs label hops queue next → n ≤ MAX_VERTICES → next < length queue
    → (v h : ℕ) → h ≡ slice_index hops (slice_index queue next) + 1
    → v < n → slice_index hops v ≡ NONE → HasTightWalk limit arcs label (slice_index queue 0) v (label v) h → label v < limit
    → IsSearch limit n arcs label (set hops v h) (queue ++ v ∷ []) next
search-push {hops = hops} {queue = queue} {next = next} search few place v h is below unset walk low =
    let hops' = set hops v h in
    let queue' = queue ++ v ∷ [] in
    let more : length queue' ≡ length queue + 1 = length_push queue v in
    let small : h < NONE = omega (arith, search-small search few place) in
    let inside : v < length hops = omega (arith, search.vertices) in
    let here : slice_index hops' v ≡ h = get_or-set_same hops v h 0 inside in
    let others : (x : ℕ) → slice_index hops x < NONE → slice_index hops' x ≡ slice_index hops x =
    λ x some. get_or-set_other hops v x h 0 (λ same. absurd (omega (arith, ap (slice_index hops) same))) in
    let keep : (k : ℕ) → k < length queue → slice_index queue' k ≡ slice_index queue k =
    λ k lt. get_or_append_left queue (v ∷ []) 0 k lt in
    let last : slice_index queue' (length queue) ≡ v = get_or_push queue v 0 (length queue) refl in
    let hop-kept : (k : ℕ) → k < length queue
    → slice_index hops' (slice_index queue' k) ≡ slice_index hops (slice_index queue k) =
    λ k lt.
    ap (slice_index hops') (keep k lt) ∙ others _ (omega (arith, (search.found k lt).early, search.room)) in
    let hop-last : slice_index hops' (slice_index queue' (length queue)) ≡ h = ap (slice_index hops') last ∙ here in
    record {
      vertices = length-set hops v h ∙ search.vertices;
      room = omega (arith, count-set hops v h inside unset small, search.room);
      fits = λ x lt. grind (arith, get_or-set_at, get_or-set_other, search.fits x lt);
      found =
          rw more
          (below_more _ _ (λ k old. rw (keep 0 (omega arith), hop-kept k old, keep k old) (search.found k old))
          (rw (keep 0 (omega arith), hop-last, last)
          (record {
            vertex = below;
            early = omega (arith, (search.found next place).early);
            walk = walk;
            low = low;
          })));
      rising = λ k lt.
          elim (cases_lt (k + 1) (length queue)) [
            | inl old ↦ omega (arith, hop-kept k (omega arith), hop-kept (k + 1) old, search.rising k old)
            | inr new ↦
                let end : k + 1 ≡ length queue = omega arith in
                rw end (omega (arith, hop-kept k (omega arith), hop-last, search.near k (omega arith) place))
          ];
      near =
          rw more
          (below_more _ _ (λ k old _. omega (arith, hop-kept k old, hop-kept next place, search.near k old place))
          (λ _. omega (arith, hop-last, hop-kept next place)));
      queued = λ x lt some.
          elim (cases_eq x v) [
            | inl same ↦ (length queue, omega arith, last ∙ sym same)
            | inr other ↦
                let stands = search.queued x lt (omega (arith, get_or-set_other hops v x h 0 other)) in
                (stands.0, omega (arith, stands.1), keep stands.0 stands.1 ∙ stands.2)
          ];
      visited = λ k before arc within tail tight.
          let old : k < length queue = omega arith in
          let reached = search.visited k before arc within (tail ∙ keep k old) tight in
          rw (hop-kept k old, others arc.head reached.1) reached;
    }

-- a vertex that has a hop is at most one hop further than the next one
pub search-near : {limit n : ℕ} {arcs : List ArcRec} {label : ℕ → ℕ} {hops queue : List ℕ} {next : ℕ}
    → IsSearch limit n arcs label hops queue next → next < length queue
    → (v : ℕ) → v < n → (slice_index hops v ≡ NONE → ⊥)
    → IsReached (slice_index hops) (slice_index hops (slice_index queue next) + 1) v
search-near {hops = hops} search place v below some =
    let set : slice_index hops v < NONE = omega (arith, search.fits v below) in
    let stands = search.queued v below set in
    (omega (arith, search.near stands.0 stands.1 place, ap (slice_index hops) stands.2), set)

-- once all tight arcs from the next vertex are reached, the search goes on after it
pub search-next : {limit n : ℕ} {arcs : List ArcRec} {label : ℕ → ℕ} {hops queue : List ℕ} {next : ℕ}
    → IsSearch limit n arcs label hops queue next → next < length queue
    → IsVisited limit arcs label (slice_index hops) (slice_index queue next)
    → IsSearch limit n arcs label hops queue (next + 1)
search-next {next = next} search place visited = record {
  vertices = search.vertices;
  room = search.room;
  fits = search.fits;
  found = search.found;
  rising = search.rising;
  queued = search.queued;
  near = λ k lt more. omega (arith, search.near k lt place, search.rising next more);
  visited = below_more _ _ search.visited visited;
}

module _ (limit : ℕ) (arcs : List ArcRec) (label hop : ℕ → ℕ)
    (reached : (arc : ArcRec) → Contains arcs arc → IsTightBelow limit label arc → hop arc.tail < NONE
    → IsReached hop (hop arc.tail + 1) arc.head) where
  -- if each tight arc from a vertex with a hop is reached, hops rise along tight arcs by no more than their number
  tight-over : (u v : ℕ) (walk : List ArcRec) → IsWalk arcs u walk v → All (IsTightBelow limit label) walk → hop u < NONE
      → IsReached hop (hop u + length walk) v
  tight-over u v [] walks tight set = rw (← walks) (omega arith, set)
  tight-over u v (arc ∷ walk) walks tight set =
      let from : hop arc.tail ≡ hop u = ap hop walks.1 in
      let next = reached arc walks.0 (tight 0 arc (omega arith)) (omega (arith, from, set)) in
      let far = tight-over arc.head v walk walks.2 (All-tail (IsTightBelow limit label) arc walk tight) next.1 in
      (omega (arith, next, far, from), far.1)

  -- where they rise by as many, the last arc leads to the end
  tight-leads : (u v : ℕ) (walk : List ArcRec) → IsWalk arcs u walk v → All (IsTightBelow limit label) walk → hop u < NONE
      → hop u + length walk ≡ hop v → 0 < length walk
      → (x : ℕ) × Leads arcs label hop x v
  tight-leads u v [] walks tight set rises some = absurd (omega arith)
  tight-leads u v (arc ∷ []) walks tight set rises some = (
    arc.tail,
    record {
      weight = arc.weight;
      within = rw (← walks.2) walks.0;
      leading = record {
        tight = rw (← walks.2) (tight 0 arc (omega arith)).0;
        nearer = omega (arith, ap hop walks.1, rises);
      };
    },
  )
  tight-leads u v (arc ∷ second ∷ walk) walks tight set rises some =
      let from : hop arc.tail ≡ hop u = ap hop walks.1 in
      let next = reached arc walks.0 (tight 0 arc (omega arith)) (omega (arith, from, set)) in
      let rest = All-tail (IsTightBelow limit label) arc (second ∷ walk) tight in
      let far = tight-over arc.head v (second ∷ walk) walks.2 rest next.1 in
      tight-leads arc.head v (second ∷ walk) walks.2 rest next.1 (omega (arith, next, far, from, rises)) (omega arith)

-- at the end of the queue each tight arc from a vertex with a hop is reached
pub search-tight : {limit n : ℕ} {arcs : List ArcRec} {label : ℕ → ℕ} {s : ℕ} {hops queue : List ℕ} {next : ℕ}
    → IsGraph n arcs
    → IsSearch limit n arcs label hops queue next
    → length queue ≤ next → 0 < length queue → slice_index queue 0 ≡ s
    → AreTightHops limit n arcs s label hops
search-tight {limit = limit} {n = n} {arcs = arcs} {label = label} {s = s} {hops = hops} {queue = queue} graph search done
    some is =
    let hop : ℕ → ℕ = slice_index hops in
    let hop_s : hop s ≡ 0 = omega (arith, ap hop is, (search.found 0 some).early) in
    let found : (v : ℕ) → v < n → hop v < NONE → HasTightWalk limit arcs label s v (label v) (hop v) × (label v < limit)
    × (hop v < n) =
    λ v below set.
    let stands = search.queued v below set in
    let few : hop v < n =
    omega (arith, (search.found stands.0 stands.1).early, ap hop stands.2, stands.1, search.room) in
    let here = rw (stands.2, is) at (search.found stands.0 stands.1) in
    (here.walk, here.low, few) in
    let reached : (arc : ArcRec) → Contains arcs arc → IsTightBelow limit label arc → hop arc.tail < NONE
    → IsReached hop (hop arc.tail + 1) arc.head =
    λ arc here tight set.
    let stands = search.queued arc.tail (All-contains (IsArcBelow n) arcs arc graph here).0 set in
    rw stands.2 at (search.visited stands.0 (omega (arith, stands.1)) arc here (sym stands.2) tight) in
    record {
      led = record {
        count = search.vertices;
        few = λ v below set. (found v below set).2;
        leads = λ v below far set.
            let to_v = (found v below set).0 in
            tight-leads limit arcs label hop reached s v to_v.walk.walk to_v.walk.walks to_v.tight (omega (arith, hop_s))
            (omega (arith, hop_s, to_v.walk.count)) (omega (arith, to_v.walk.count, far));
      };
      fits = search.fits;
      source = λ _. hop_s;
      low = λ v below set. (found v below set).1;
      walk = λ v below set. (found v below set).0.walk;
      reached = reached;
    }

-- no vertex has a hop below a limit of 0
pub tight-none : (n : ℕ) (arcs : List ArcRec) (s : ℕ) (label : ℕ → ℕ) → IsGraph n arcs
    → AreTightHops 0 n arcs s label (replicate n NONE)
tight-none n arcs s label graph =
    let none : (v : ℕ) → v < n → slice_index (replicate n NONE) v ≡ NONE = λ v below. get_or-replicate n v NONE 0 below in
    record {
      led = record {
        count = length-replicate n NONE;
        few = λ v below set. absurd (omega (arith, none v below, set));
        leads = λ v below far set. absurd (omega (arith, none v below, set));
      };
      fits = λ v below. omega (arith, none v below);
      source = λ some. absurd (omega (arith, some));
      low = λ v below set. absurd (omega (arith, none v below, set));
      walk = λ v below set. absurd (omega (arith, none v below, set));
      reached = λ arc within tight set. absurd (omega (arith, tight.1));
    }

-- with labels that are least up to the limit these hops are fewest
pub tight-fewest : {limit n : ℕ} {arcs : List ArcRec} {s : ℕ} {labels hops : List ℕ}
    → limit ≤ INF → IsGraph n arcs → s < n → AreLeastLabelsUpTo limit n arcs (seeds_from s) labels
    → AreTightHops limit n arcs s (slice_index labels) hops
    → AreHopsBelow limit n arcs s labels hops
tight-fewest {limit = limit} {n = n} {arcs = arcs} {s = s} {labels = labels} {hops = hops} few graph within least tight =
    let label : ℕ → ℕ = slice_index labels in
    let hop : ℕ → ℕ = slice_index hops in
    let over : (v : ℕ) (walk : List ArcRec) → v < n → label v < limit → IsWalk arcs s walk v → cost walk ≡ label v
    → IsReached hop (length walk) v =
    λ v walk below low walks costs.
    let hop_s : hop s ≡ 0 = tight.source (omega (arith, low)) in
    let label_s : label s ≡ 0 =
    omega (arith, label-le-cost few graph least s [] within (omega (arith, low)) refl) in
    let far = hop-over few graph least hop tight.reached s v walk within below low (omega (arith, costs, label_s))
    (omega (arith, hop_s)) walks in
    (omega (arith, far, hop_s), far.1) in
    let set : (v : ℕ) → v < n → label v < limit → hop v < NONE =
    λ v below low.
    let least_walk = walk-of_attained arcs s v (label v) ((least.least v below).attained (omega (arith, low, few))) in
    (over v least_walk.0 below low least_walk.1 least_walk.2).1 in
    record {
      count = tight.led.count;
      none = λ v below past.
          elim (cases_lt (hop v) NONE) [
            | inl some_hop ↦ absurd (omega (arith, tight.low v below some_hop, past))
            | inr none ↦ omega (arith, none, tight.fits v below)
          ];
      below = set;
      hop = λ v below low. record {
        walk = tight.walk v below (set v below low);
        fewest = λ walk walks costs. (over v walk below low walks costs).0;
      };
    }
