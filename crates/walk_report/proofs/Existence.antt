-- Hops and parents exist. A hop is a least label along the tight arcs, each of which counts 1. A parent is found by
-- asking one vertex after another.
use Rattle.std.proofs.Common.{◌≡◌, ◌∙◌, ℕ, zero, suc, ◌+◌, ◌<◌, ◌≤◌, ◌⊎◌, List, [], ◌∷◌, length, get_or, map, min}
use Rattle.std.proofs.Common.{slice_index}
use Rattle.std.proofs.Common.{refl, sym, subst, ap, arith, inl, inr}
use Rattle.std.specs.List.{Contains, range_with_len}
use Rattle.std.proofs.lemmas.Bool.{cases_eq, cases_lt}
use Rattle.std.proofs.lemmas.List.{get_or-map, get_or_default, length-map}
use Rattle.std.proofs.lemmas.List.Elements.{All-cons, All-contains, All-from_get_or, All-nil}
use Rattle.std.proofs.lemmas.List.Elements.{Contains-append_cases, Contains-append_right}
use Rattle.std.proofs.lemmas.List.FromFn.{get_or-map-range_with_len, length-map-range_with_len}
use Rattle.route_walks.specs.declared.graph.ArcRec.{ArcRec}
use Rattle.route_walks.specs.declared.graph.Seed.{Seed}
use Rattle.route_walks.specs.declared.graph.TheConstants.{INF, MAX_VERTICES}
use Rattle.route_walks.specs.Walk.{AreSeeds, IsArcBelow, IsGraph, IsWalk, cost}
use Rattle.route_walks.specs.Label.{AreLeastLabels}
use Rattle.route_walks.specs.Operators.{seeds_from, unit_weight}
use Rattle.route_walks.specs.Existence.{LeastLabelsExist}
use Rattle.route_walks.proofs.Facts.{attained-by_walk, contains-one, walk-of_attained, walks_can_be_cut}
use Rattle.csr_graph.proofs.Facts.{no_arc}
use Rattle.walk_report.specs.declared.hop.TheConstants.{NONE}
use Rattle.walk_report.specs.Hop.{AreFromOneSource, AreHops}
use Rattle.walk_report.specs.Parent.{IsParent, Leads}
use Rattle.walk_report.specs.Search.{IsTightBelow}
use Rattle.walk_report.specs.Existence.{HopsAndParentsExist}
use Rattle.walk_report.proofs.LeastWalks.{first-step, label-le-cost, labels-up-to}
use Rattle.walk_report.proofs.Tails.{AreLeastTails, source-led, tails-done}

-- a step is a tight arc that counts 1
record IsStep (label : ℕ → ℕ) (arcs : List ArcRec) (step : ArcRec) : Type 0 where
  arc : ArcRec
  within : Contains arcs arc
  tight : IsTightBelow INF label arc
  is : unit_weight arc ≡ step

record AreSteps (label : ℕ → ℕ) (arcs steps : List ArcRec) : Type 0 where
  all : (arc : ArcRec) → Contains arcs arc → IsTightBelow INF label arc → Contains steps (unit_weight arc)
  only : (step : ArcRec) → Contains steps step → IsStep label arcs step

cases_tight : (label : ℕ → ℕ) (arc : ArcRec) → IsTightBelow INF label arc ⊎ (IsTightBelow INF label arc → ⊥)
cases_tight label arc =
    elim (cases_eq (label arc.tail + arc.weight) (label arc.head)) [
      | inr other ↦ inr (λ tight. other tight.0)
      | inl is ↦
          elim (cases_lt (label arc.head) INF) [
            | inl finite ↦ inl (is, finite)
            | inr high ↦ inr (λ tight. omega (arith, high, tight.1))
          ]
    ]

step-later : (label : ℕ → ℕ) (first : ArcRec) (arcs : List ArcRec) (step : ArcRec) → IsStep label arcs step
    → IsStep label (first ∷ arcs) step
step-later label first arcs step found = record {
  arc = found.arc;
  within = Contains-append_right (first ∷ []) arcs found.arc found.within;
  tight = found.tight;
  is = found.is;
}

steps_of : (label : ℕ → ℕ) (arcs : List ArcRec) → (steps : List ArcRec) × AreSteps label arcs steps
steps_of label [] = (
  [],
  record {
    all = λ arc within tight. absurd (omega (arith, within.1));
    only = λ step within. absurd (omega (arith, within.1));
  },
)
steps_of label (first ∷ arcs) =
    let rest = steps_of label arcs in
    elim (cases_tight label first) [
      | inl tight ↦ (
        unit_weight first ∷ rest.0,
        record {
          all = λ arc within is.
              elim (Contains-append_cases (first ∷ []) arcs arc within) [
                | inl here ↦ (0, omega arith, ap unit_weight (contains-one first arc here))
                | inr later ↦
                    Contains-append_right (unit_weight first ∷ []) rest.0 (unit_weight arc) (rest.1.all arc later is)
              ];
          only = λ step within.
              elim (Contains-append_cases (unit_weight first ∷ []) rest.0 step within) [
                | inl here ↦
                    record {
                      arc = first;
                      within = (0, omega arith, refl);
                      tight = tight;
                      is = contains-one (unit_weight first) step here;
                    }
                | inr later ↦ step-later label first arcs step (rest.1.only step later)
              ];
        },
      )
      | inr loose ↦ (
        rest.0,
        record {
          all = λ arc within is.
              elim (Contains-append_cases (first ∷ []) arcs arc within) [
                | inl here ↦ absurd (loose (subst (IsTightBelow INF label) (sym (contains-one first arc here)) is))
                | inr later ↦ rest.1.all arc later is
              ];
          only = λ step within. step-later label first arcs step (rest.1.only step within);
        },
      )
    ]

-- as many as the arcs of a walk
cost-units : (walk : List ArcRec) → cost (map unit_weight walk) ≡ length walk
cost-units [] = refl
cost-units (arc ∷ walk) = omega (arith, cost-units walk)

-- a walk of tight arcs from u to v, which a walk of steps goes along
record GoesAlong (arcs : List ArcRec) (label : ℕ → ℕ) (u v count : ℕ) : Type 0 where
  walk : List ArcRec
  walks : IsWalk arcs u walk v
  costs : label u + cost walk ≡ label v
  counts : length walk ≡ count
  finite : label v < INF

module _ (label : ℕ → ℕ) (arcs steps : List ArcRec) (are : AreSteps label arcs steps) where
  step-costs : (step : ArcRec) → Contains steps step → step.weight ≡ 1
  step-costs step within = sym (ap (λ (a : ArcRec). a.weight) (are.only step within).is)

  steps-cost : (u v : ℕ) (walk : List ArcRec) → IsWalk steps u walk v → cost walk ≡ length walk
  steps-cost u v [] walks = refl
  steps-cost u v (step ∷ walk) walks =
      omega (arith, step-costs step walks.0, steps-cost step.head v walk walks.2)

  steps-graph : (n : ℕ) → IsGraph n arcs → IsGraph n steps
  steps-graph n graph =
      All-from_get_or (IsArcBelow n) steps no_arc
      (λ k below.
      let step = get_or steps k no_arc in
      let found = are.only step (k, below, sym (get_or_default steps k no_arc step below)) in
      subst (IsArcBelow n) found.is (All-contains (IsArcBelow n) arcs found.arc graph found.within))

  along-steps : (u v : ℕ) (walk : List ArcRec) → label u < INF → IsWalk steps u walk v
      → GoesAlong arcs label u v (cost walk)
  along-steps u v [] finite walks = record {
    walk = [];
    walks = walks;
    costs = omega (arith, ap label walks);
    counts = refl;
    finite = omega (arith, ap label walks, finite);
  }
  along-steps u v (step ∷ walk) finite walks =
      let found = are.only step walks.0 in
      let head : found.arc.head ≡ step.head = ap (λ (a : ArcRec). a.head) found.is in
      let tail : found.arc.tail ≡ u = ap (λ (a : ArcRec). a.tail) found.is ∙ walks.1 in
      let rest =
      along-steps step.head v walk (omega (arith, ap label head, found.tight.1)) walks.2 in
      record {
        walk = found.arc ∷ rest.walk;
        walks = (found.within, tail, subst (λ (x : ℕ). IsWalk arcs x rest.walk v) (sym head) rest.walks);
        costs = omega (arith, found.tight.0, ap label head, ap label tail, rest.costs);
        counts = omega (arith, rest.counts, step-costs step walks.0);
        finite = rest.finite;
      }

module _ (n : ℕ) (arcs : List ArcRec) (s : ℕ) (labels : List ℕ) (few : n ≤ MAX_VERTICES) (graph : IsGraph n arcs)
    (inside : s < n) (least : AreLeastLabels n arcs (seeds_from s) labels) where
  label_s : slice_index labels s ≡ 0
  label_s = omega (arith, label-le-cost (omega arith) graph (labels-up-to INF least) s [] inside (omega arith) refl)

  module _ (steps : List ArcRec) (are : AreSteps (slice_index labels) arcs steps) where
    -- a walk along which labels differ by its cost goes by steps
    by-steps : (u v : ℕ) (walk : List ArcRec) → u < n → v < n → slice_index labels v < INF
        → slice_index labels u + cost walk ≡ slice_index labels v → IsWalk arcs u walk v
        → IsWalk steps u (map unit_weight walk) v
    by-steps u v [] below below' finite costs walks = walks
    by-steps u v (arc ∷ walk) below below' finite costs walks =
        let next =
        first-step (omega arith) graph (labels-up-to INF least) u v arc walk below below' finite costs walks in
        let tail : slice_index labels arc.tail ≡ slice_index labels u = ap (slice_index labels) walks.1 in (
          are.all arc walks.0 (omega (arith, next.2, tail), next.1),
          walks.1,
          by-steps arc.head v walk next.0 below' finite next.3 walks.2,
        )

    module _ (counts : List ℕ) (fewest : AreLeastLabels n steps (seeds_from s) counts) where
      -- a walk of least cost has no fewer arcs
      count-le : (v : ℕ) (walk : List ArcRec) → v < n → slice_index labels v < INF → IsWalk arcs s walk v
          → cost walk ≡ slice_index labels v
          → slice_index counts v ≤ length walk
      count-le v walk below finite walks costs =
          let stepped = by-steps s v walk inside below finite (omega (arith, label_s, costs)) walks in
          let low = (fewest.least v below).least _ (attained-by_walk steps s v (map unit_weight walk) stepped) in
          omega (arith, low, cost-units walk)

      count-lt : (v : ℕ) → v < n → slice_index labels v < INF → slice_index counts v < n
      count-lt v below finite =
          let found = walk-of_attained arcs s v (slice_index labels v) ((least.least v below).attained finite) in
          let stepped =
          by-steps s v found.0 inside below finite (omega (arith, label_s, found.2)) found.1 in
          let cut =
          walks_can_be_cut n steps s v (map unit_weight found.0)
          (steps-graph (slice_index labels) arcs steps are n graph) inside stepped in
          let low = (fewest.least v below).least _ (attained-by_walk steps s v cut.walk cut.walks) in
          omega (arith, low, steps-cost (slice_index labels) arcs steps are s v cut.walk cut.walks, cut.short)

      counted : (v : ℕ) → v < n → slice_index counts v < INF
          → GoesAlong arcs (slice_index labels) s v (slice_index counts v)
      counted v below finite =
          let found = walk-of_attained steps s v (slice_index counts v) ((fewest.least v below).attained finite) in
          subst (GoesAlong arcs (slice_index labels) s v) found.2
          (along-steps (slice_index labels) arcs steps are s v found.0 (omega (arith, label_s)) found.1)

      hops-from : AreHops n arcs s labels (map (λ count. min count NONE) counts)
      hops-from =
          let hop : ℕ → ℕ = slice_index (map (λ count. min count NONE) counts) in
          let is : (v : ℕ) → v < n → hop v ≡ min (slice_index counts v) NONE =
          λ v below. get_or-map (λ count. min count NONE) counts v 0 0 (omega (arith, fewest.count)) in
          let exact : (v : ℕ) → v < n → slice_index labels v < INF → hop v ≡ slice_index counts v =
          λ v below finite. omega (arith, is v below, count-lt v below finite, few) in
          record {
            count = omega (arith, length-map counts (λ count. min count NONE), fewest.count);
            none = λ v below infinite.
                elim (cases_lt (slice_index counts v) INF) [
                  | inl some ↦ absurd (omega (arith, (counted v below some).finite, infinite))
                  | inr none ↦ omega (arith, is v below, none)
                ];
            below = λ v below finite. omega (arith, is v below, count-lt v below finite, few);
            hop = λ v below finite.
                let found = counted v below (omega (arith, count-lt v below finite, few)) in
                record {
                  walk = record {
                    walk = found.walk;
                    walks = found.walks;
                    costs = omega (arith, label_s, found.costs);
                    count = found.counts ∙ sym (exact v below finite);
                  };
                  fewest = λ walk walks costs.
                      omega (arith, count-le v walk below finite walks costs, exact v below finite);
                };
          }

cases_both : {P Q : Type 0} → P ⊎ (P → ⊥) → Q ⊎ (Q → ⊥) → (P × Q) ⊎ (P × Q → ⊥)
cases_both (inr not) cases = inr (λ both. not both.0)
cases_both (inl one) (inr not) = inr (λ both. not both.1)
cases_both (inl one) (inl other) = inl (one, other)

module _ (label hop : ℕ → ℕ) (v : ℕ) where
  -- an arc leads from u to v
  abbrev LeadsFrom : ℕ → ArcRec → Type 0
  LeadsFrom u arc =
      ((arc.tail ≡ u) × (arc.head ≡ v))
      × ((label arc.tail + arc.weight ≡ label arc.head) × (hop arc.tail + 1 ≡ hop arc.head))

  cases_leads : (u : ℕ) (arcs : List ArcRec) → Leads arcs label hop u v ⊎ (Leads arcs label hop u v → ⊥)
  cases_leads u [] = inr (λ leads. absurd (omega (arith, leads.within.1)))
  cases_leads u (arc ∷ arcs) =
      let cases : LeadsFrom u arc ⊎ (LeadsFrom u arc → ⊥) =
      cases_both (cases_both (cases_eq _ _) (cases_eq _ _)) (cases_both (cases_eq _ _) (cases_eq _ _)) in
      elim cases [
        | inl here ↦
            inl (subst (λ x. Leads (arc ∷ arcs) label hop x v) here.0.0
            (subst (Leads (arc ∷ arcs) label hop arc.tail) here.0.1 (record {
              weight = arc.weight;
              within = (0, omega arith, refl);
              leading = record { tight = here.1.0; nearer = here.1.1 };
            })))
        | inr not ↦
            elim (cases_leads u arcs) [
              | inl later ↦
                  inl (record {
                    weight = later.weight;
                    within = Contains-append_right (arc ∷ []) arcs _ later.within;
                    leading = later.leading;
                  })
              | inr none ↦
                  inr (λ leads.
                  elim (Contains-append_cases (arc ∷ []) arcs _ leads.within) [
                    | inl here ↦
                        not (rw (contains-one arc _ here) ((refl, refl), (leads.leading.tight, leads.leading.nearer)))
                    | inr later ↦ none (record { weight = leads.weight; within = later; leading = leads.leading })
                  ])
            ]
      ]

  -- the least vertex below `tail` that leads to v is p, or none does and p is NONE
  abbrev IsFirst : List ArcRec → ℕ → ℕ → Type 0
  IsFirst arcs tail p =
      ((p ≡ NONE) × ((u : ℕ) → u < tail → Leads arcs label hop u v → ⊥)) ⊎ IsParent arcs label hop v p

  first-of : (arcs : List ArcRec) (tail : ℕ) → (p : ℕ) × IsFirst arcs tail p
  first-of arcs zero = (NONE, inl (refl, λ u low. absurd (omega arith)))
  first-of arcs (suc tail) =
      let below = first-of arcs tail in
      elim (below.1) [
        | inr parent ↦ (below.0, inr parent)
        | inl none ↦
            elim (cases_leads tail arcs) [
              | inl leads ↦ (
                tail,
                inr (record {
                  leads = leads;
                  least = λ other more.
                      elim (cases_lt other tail) [
                        | inl low ↦ absurd (none.1 other low more)
                        | inr high ↦ high
                      ];
                }),
              )
              | inr not ↦ (
                below.0,
                inl (
                  none.0,
                  λ u low leads.
                      elim (cases_lt u tail) [
                        | inl lower ↦ none.1 u lower leads
                        | inr same ↦ let is : u ≡ tail = omega arith in not (rw is at leads)
                      ],
                ),
              )
            ]
      ]

pub hops_and_parents_exist : LeastLabelsExist → HopsAndParentsExist
hops_and_parents_exist law n arcs s labels few graph inside least =
    let label = slice_index labels in
    let steps = steps_of label arcs in
    let source : AreSeeds n (seeds_from s) =
    All-cons (λ (seed : Seed). seed.vertex < n) (record { vertex = s; start = 0 }) [] inside (All-nil _) in
    let counts = law n steps.0 (seeds_from s) (steps-graph label arcs steps.0 steps.1 n graph) source in
    let exact = hops-from n arcs s labels few graph inside least steps.0 steps.1 counts.0 counts.1 in
    let hops = map (λ count. min count NONE) counts.0 in
    let first : ℕ → ℕ = λ v. (first-of label (slice_index hops) v arcs n).0 in
    let parents = map first (range_with_len 0 n) in
    let firsts : (v : ℕ) → v < n → IsFirst label (slice_index hops) v arcs n (slice_index parents v) =
    λ v below.
    let is = get_or-map-range_with_len first 0 n v v 0 below (omega arith) in
    subst (IsFirst label (slice_index hops) v arcs n) (sym is) (first-of label (slice_index hops) v arcs n).1 in
    let tails : AreLeastTails n arcs label (slice_index hops) (λ u. u < n) parents =
    record {
      count = length-map-range_with_len first 0 n;
      some = λ v below.
          elim (firsts v below) [
            | inl none ↦ inl none.0
            | inr parent ↦ inr parent.leads
          ];
      least = λ v below u low leads.
          elim (firsts v below) [
            | inl none ↦ absurd (none.1 u low leads)
            | inr parent ↦ parent.least u leads
          ];
    } in
    let from : AreFromOneSource n arcs labels hops =
    record {
      source = s;
      within = inside;
      limit = INF;
      few = omega arith;
      least = labels-up-to INF least;
      exact = exact;
    } in
    (hops, parents, exact, tails-done (λ u. u < n) few graph (source-led graph from) (λ u below _. below) tails)
