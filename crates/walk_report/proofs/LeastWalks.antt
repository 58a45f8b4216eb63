-- Least walks below a limit: hops rise by at most one an arc, and the last arc of one of fewest leads to its end.
use Rattle.std.proofs.Common.{◌≡◌, ℕ, ◌+◌, ◌<◌, ◌≤◌, List, [], ◌∷◌, ◌++◌, length, slice_index, sym, ap, refl, arith}
use Rattle.std.proofs.Common.{inl, inr}
use Rattle.std.specs.List.{Contains}
use Rattle.std.proofs.lemmas.Bool.{cases_lt}
use Rattle.std.proofs.lemmas.List.{length_push, length-append}
use Rattle.std.proofs.lemmas.List.Elements.{All-contains, All-push}
use Rattle.route_walks.specs.declared.graph.ArcRec.{ArcRec}
use Rattle.route_walks.specs.declared.graph.TheConstants.{INF}
use Rattle.route_walks.specs.Walk.{IsArcBelow, IsGraph, IsWalk, cost}
use Rattle.route_walks.specs.Label.{AreLeastLabels}
use Rattle.route_walks.specs.Limit.{AreLeastLabelsUpTo}
use Rattle.route_walks.specs.Operators.{seeds_from}
use Rattle.route_walks.proofs.Facts.{attained-by_walk, attained-over, least_is_least_up_to, walk-append, cost-append}
use Rattle.route_walks.proofs.Facts.{walks_can_be_cut}
use Rattle.walk_report.specs.declared.hop.TheConstants.{NONE}
use Rattle.walk_report.specs.Hop.{HasWalk, AreHopsBelow}
use Rattle.walk_report.specs.Parent.{Leads}
use Rattle.walk_report.specs.Search.{HasTightWalk, IsTightBelow, IsReached}

-- the walk to u, and then the arc
pub walk-more : (arcs : List ArcRec) (s u v w d h : ℕ) → Contains arcs (record { tail = u; head = v; weight = w })
    → HasWalk arcs s u d h → HasWalk arcs s v (d + w) (h + 1)
walk-more arcs s u v w d h within to_u =
    let arc : ArcRec = record { tail = u; head = v; weight = w } in
    record {
      walk = to_u.walk ++ arc ∷ [];
      walks = walk-append arcs s u v to_u.walk (arc ∷ []) to_u.walks (within, refl, refl);
      costs = omega (arith, cost-append to_u.walk (arc ∷ []), to_u.costs);
      count = omega (arith, length_push to_u.walk arc, to_u.count);
    }

-- the walk to u, and then a tight arc
pub tight-more : (limit : ℕ) (arcs : List ArcRec) (label : ℕ → ℕ) (s u v w d h : ℕ)
    → Contains arcs (record { tail = u; head = v; weight = w })
    → IsTightBelow limit label (record { tail = u; head = v; weight = w })
    → HasTightWalk limit arcs label s u d h → HasTightWalk limit arcs label s v (d + w) (h + 1)
unfolding walk-more
tight-more limit arcs label s u v w d h within tight to_u = record {
  walk = walk-more arcs s u v w d h within to_u.walk;
  tight =
      All-push (IsTightBelow limit label) to_u.walk.walk (record { tail = u; head = v; weight = w }) to_u.tight tight;
}

-- least labels are least up to each limit
pub labels-up-to : (limit : ℕ) {n : ℕ} {arcs : List ArcRec} {s : ℕ} {labels : List ℕ}
    → AreLeastLabels n arcs (seeds_from s) labels → AreLeastLabelsUpTo limit n arcs (seeds_from s) labels
labels-up-to limit {arcs = arcs} {s = s} {labels = labels} least = record {
  count = least.count;
  least = λ v below. least_is_least_up_to limit arcs (seeds_from s) v (slice_index labels v) (least.least v below);
}

module _ {limit n : ℕ} {arcs : List ArcRec} {s : ℕ} {labels : List ℕ} (few : limit ≤ INF) (graph : IsGraph n arcs)
    (least : AreLeastLabelsUpTo limit n arcs (seeds_from s) labels) where
  -- a walk's end has at most its start's label and its cost, if that is below the limit
  label-over : (u v : ℕ) (walk : List ArcRec) → u < n → v < n → slice_index labels u + cost walk < limit
      → IsWalk arcs u walk v
      → slice_index labels v ≤ slice_index labels u + cost walk
  label-over u v walk below below' low walks =
      elim ((least.least v below').least _
      (attained-over arcs (seeds_from s) u v _ walk ((least.least u below).attained (omega (arith, low, few))) walks)) [
        | inl less ↦ less
        | inr past ↦ absurd (omega (arith, past, low))
      ]

  -- labels from s are at most the cost of a walk from there, if below the limit
  pub label-le-cost : (v : ℕ) (walk : List ArcRec) → v < n → cost walk < limit → IsWalk arcs s walk v
      → slice_index labels v ≤ cost walk
  label-le-cost v walk below low walks =
      elim ((least.least v below).least _ (attained-by_walk arcs s v walk walks)) [
        | inl less ↦ less
        | inr past ↦ absurd (omega (arith, past, low))
      ]

  -- the first arc of a walk along which labels differ by its cost is tight, and so for the rest
  pub first-step : (u v : ℕ) (arc : ArcRec) (walk : List ArcRec) → u < n → v < n → slice_index labels v < limit
      → slice_index labels u + cost (arc ∷ walk) ≡ slice_index labels v → IsWalk arcs u (arc ∷ walk) v
      → (arc.head < n) × (slice_index labels arc.head < limit)
      × (slice_index labels u + arc.weight ≡ slice_index labels arc.head)
      × (slice_index labels arc.head + cost walk ≡ slice_index labels v)
  first-step u v arc walk below below' low costs walks =
      let head : arc.head < n = (All-contains (IsArcBelow n) arcs arc graph walks.0).1 in
      let one = label-over u arc.head (arc ∷ []) below head (omega (arith, costs, low)) (walks.0, walks.1, refl) in
      let near : slice_index labels arc.head < limit = omega (arith, one) in
      let rest = label-over arc.head v walk head below' (omega (arith, one, costs, low)) walks.2 in
      (head, near, omega (arith, one, rest), omega (arith, one, rest))

  -- if each tight arc from a vertex with a hop is reached, hops rise along such a walk by no more than its arcs
  pub hop-over : (hop : ℕ → ℕ)
      → ((arc : ArcRec) → Contains arcs arc → IsTightBelow limit (slice_index labels) arc → hop arc.tail < NONE
      → IsReached hop (hop arc.tail + 1) arc.head)
      → (u v : ℕ) (walk : List ArcRec) → u < n → v < n → slice_index labels v < limit
      → slice_index labels u + cost walk ≡ slice_index labels v → hop u < NONE → IsWalk arcs u walk v
      → IsReached hop (hop u + length walk) v
  hop-over hop reached u v [] below below' low costs set walks = rw (← walks) (omega arith, set)
  hop-over hop reached u v (arc ∷ walk) below below' low costs set walks =
      let step = first-step u v arc walk below below' low costs walks in
      let tail : slice_index labels arc.tail ≡ slice_index labels u = ap (slice_index labels) walks.1 in
      let from : hop arc.tail ≡ hop u = ap hop walks.1 in
      let next = reached arc walks.0 (omega (arith, step), step.1) (omega arith) in
      let far = hop-over hop reached arc.head v walk step.0 below' low step.3 next.1 walks.2 in
      (omega (arith, next, far), far.1)

  module _ {hops : List ℕ} (within : s < n) (exact : AreHopsBelow limit n arcs s labels hops) where
    -- a vertex with a hop is one below the limit
    low-label : (v : ℕ) → v < n → slice_index hops v < NONE → slice_index labels v < limit
    low-label v below some =
        elim (cases_lt (slice_index labels v) limit) [
          | inl low ↦ low
          | inr past ↦ absurd (omega (arith, exact.none v below past, some))
        ]

    -- hops are below the number of vertices
    pub hop-lt : (v : ℕ) → v < n → slice_index hops v < NONE → slice_index hops v < n
    hop-lt v below some =
        let small = low-label v below some in
        let hop = exact.hop v below small in
        let cut = walks_can_be_cut n arcs s v hop.walk.walk graph within hop.walk.walks in
        let low = label-le-cost v cut.walk below (omega (arith, cut.cheap, hop.walk.costs, small)) cut.walks in
        let few = hop.fewest cut.walk cut.walks (omega (arith, low, cut.cheap, hop.walk.costs)) in
        omega (arith, few, cut.short)

    -- hops rise along such a walk by no more than its arcs
    hop-bound : (u v : ℕ) (walk : List ArcRec) → u < n → v < n → slice_index labels v < limit
        → slice_index labels u + cost walk ≡ slice_index labels v → IsWalk arcs u walk v
        → slice_index hops v ≤ slice_index hops u + length walk
    hop-bound u v walk below below' low costs walks =
        let to_u = (exact.hop u below (omega arith)).walk in
        let far = (exact.hop v below' low).fewest (to_u.walk ++ walk)
        (walk-append arcs s u v to_u.walk walk to_u.walks walks)
        (omega (arith, cost-append to_u.walk walk, to_u.costs)) in
        omega (arith, far, length-append to_u.walk walk, to_u.count)

    -- where they rise by as many, the last arc leads to the end
    leads-by : (u v : ℕ) (walk : List ArcRec) → u < n → v < n → slice_index labels v < limit
        → slice_index labels u + cost walk ≡ slice_index labels v → IsWalk arcs u walk v
        → slice_index hops u + length walk ≡ slice_index hops v → 0 < length walk
        → (t : ℕ) × Leads arcs (slice_index labels) (slice_index hops) t v
    leads-by u v [] below below' low costs walks rises some = absurd (omega arith)
    leads-by u v (arc ∷ []) below below' low costs walks rises some = (
      u,
      record {
        weight = arc.weight;
        within = rw (← walks.1, ← walks.2) walks.0;
        leading = record { tight = omega arith; nearer = omega arith };
      },
    )
    leads-by u v (arc ∷ second ∷ walk) below below' low costs walks rises some =
        let step = first-step u v arc (second ∷ walk) below below' low costs walks in
        let near = hop-bound u arc.head (arc ∷ []) below step.0 step.1 (omega (arith, step)) (walks.0, walks.1, refl) in
        let far = hop-bound arc.head v (second ∷ walk) step.0 below' low step.3 walks.2 in
        leads-by arc.head v (second ∷ walk) step.0 below' low step.3 walks.2 (omega (arith, near, far)) (omega arith)

    -- some vertex leads to each that is not the source
    pub some-leads : (v : ℕ) → v < n → 0 < slice_index hops v → slice_index hops v < NONE
        → (u : ℕ) × Leads arcs (slice_index labels) (slice_index hops) u v
    some-leads v below far some =
        let low = low-label v below some in
        let walk = (exact.hop v below low).walk in
        let label_s : slice_index labels s ≡ 0 = omega (arith, label-le-cost s [] within (omega (arith, low)) refl) in
        let hop_s : slice_index hops s ≤ 0 =
        (exact.hop s within (omega (arith, label_s, low))).fewest [] refl (sym label_s) in
        leads-by s v walk.walk within below low (omega (arith, walk.costs)) walk.walks (omega (arith, walk.count))
        (omega (arith, walk.count))
