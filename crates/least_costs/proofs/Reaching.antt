-- What a run that reached its goal tells of costs.
use Rattle.std.proofs.Common.{◌≡◌, ◌∙◌, ℕ, ◌+◌, ◌<◌, List, [], ◌∷◌, ◌++◌, Option, Some, None, ap, arith, inl, inr, length}
use Rattle.std.proofs.Common.{slice_index, slice_index_or, subst, sym}
use Rattle.std.specs.Prelude.{IfNone, IfSome}
use Rattle.std.proofs.lemmas.List.{get_or_append_left, get_or_push, length_push}
use Rattle.std.proofs.lemmas.Bool.{cases_lt}
use Rattle.route_walks.specs.declared.graph.TheConstants.{INF}
use Rattle.route_walks.specs.Existence.{LeastLabelsExist}
use Rattle.route_walks.specs.Label.{InfMeansNoWalk, IsLeast}
use Rattle.least_costs.specs.declared.pairs.Pairs.{Pairs}
use Rattle.least_costs.specs.declared.start.Start.{Start}
use Rattle.least_costs.specs.declared.start.Start.TheVariants.{At}
use Rattle.least_costs.specs.Costs.{AreCostsTo, IsCostTo}
use Rattle.least_costs.specs.Network.{IsNetwork, IsStartWithin, NetworkSeen, seeds_at}
use denote.Ref.{Bor}
use Rattle.least_costs.specs.Pairs.{AreAsked, AreCostsAt, AreCostsAtAfter, AreGrownCostsTo, AreTargets, IsRun, pair_at}
use Rattle.least_costs.proofs.Filling.{entry_of}
use Rattle.least_costs.proofs.Starts.{start-seeds}
use Rattle.least_costs.proofs.Unreached.{unreached-at}

-- a least label tells the cost
pub least-told : LeastLabelsExist → InfMeansNoWalk → (net : NetworkSeen) (from : Start)
    → IsNetwork net → IsStartWithin net.n from
    → (v label : ℕ) → v < net.n → IsLeast net.arcs (seeds_at net.n from) v label
    → (cost : Option ℕ) → IfSome cost (λ c. (c ≡ label) × (label < INF)) → IfNone cost (label ≡ INF)
    → IsCostTo net from v cost
least-told exist law net from is within v label below least (Some cost) some none =
    subst (λ (c : ℕ). IsCostTo net from v (Some c)) (sym some.0)
    (record { attained = least.attained some.1; least = least.least })
least-told exist law net from is within v label below least None some none =
    λ c walk.
    let found = exist net.n net.arcs (seeds_at net.n from) is.ends (start-seeds net.n from within) in
    let here : IsLeast net.arcs (seeds_at net.n from) v (slice_index found.0 v) = found.1.least v below in
    elim (cases_lt (slice_index found.0 v) INF) [
      | inl low ↦ absurd (omega (arith, none, low, least.least (slice_index found.0 v) (here.attained low)))
      | inr high ↦
          unreached-at law net from found.0 is within found.1 v below (omega (arith, here.capped, high)) c walk
    ]

-- one cost more
pub costs-more : (net : NetworkSeen) (from : Start) (vertices : List ℕ) (costs : List (Option ℕ)) (v : ℕ)
    (cost : Option ℕ)
    → AreCostsTo net from vertices costs → IsCostTo net from v cost
    → AreCostsTo net from (vertices ++ v ∷ []) (costs ++ cost ∷ [])
costs-more net from vertices costs v cost are is = record {
  count =
      length_push costs cost ∙ ap (λ k. k + 1) are.count ∙ sym (length_push vertices v);
  each = λ k below.
      elim (cases_lt k (length vertices)) [
        | inl here ↦
            let there : k < length costs = omega (arith, here, are.count) in
            subst (λ (x : ℕ). IsCostTo net from x (slice_index_or (costs ++ cost ∷ []) k None))
            (sym (get_or_append_left vertices (v ∷ []) 0 k here))
            (subst (IsCostTo net from (slice_index vertices k))
            (sym (get_or_append_left costs (cost ∷ []) None k there)) (are.each k here))
        | inr past ↦
            let last : length vertices ≡ k = omega (arith, below, length_push vertices v, past) in
            subst (λ (x : ℕ). IsCostTo net from x (slice_index_or (costs ++ cost ∷ []) k None))
            (sym (get_or_push vertices v 0 k last))
            (subst (IsCostTo net from v) (sym (get_or_push costs cost None k (are.count ∙ last))) is)
      ];
}

-- the costs to the targets of the pairs of one source are those of the pairs
pub costs-of-pairs : (asked : Pairs) (net : NetworkSeen) (first end : ℕ) (targets : List ℕ) (costs : List (Option ℕ))
    → AreAsked asked → IsRun asked.order.now first end → AreTargets asked first end targets
    → AreCostsTo net (At (pair_at asked.order.now first).0) targets costs
    → AreCostsAt net asked.pairs.now asked.order.now first costs
costs-of-pairs asked net first end targets costs are run aims to k below =
    let pairs = asked.pairs.now in
    let order = asked.order.now in
    let pair = pair_at pairs (pair_at order (first + k)).1 in
    let here : k < length targets = omega (arith, below, to.count) in
    let inside : first + k < end = omega (arith, here, aims.count) in
    let entry = entry_of pairs order (first + k) (omega (arith, inside, run.within)) are.order in
    let source : (pair_at order first).0 ≡ pair.0 = run.alike (first + k) (omega arith) inside ∙ entry.1 in
    subst (λ (s : ℕ). IsCostTo net (At s) pair.1 (slice_index_or costs k None)) source
    (subst (λ (t : ℕ). IsCostTo net (At (pair_at order first).0) t (slice_index_or costs k None)) (aims.each k here)
    (to.each k here))

-- the same in the grown network, if there is one
pub grown-costs-of-pairs : (grown : Option (Bor NetworkSeen)) (asked : Pairs) (first end : ℕ) (targets : List ℕ)
    (costs after : List (Option ℕ))
    → AreAsked asked → IsRun asked.order.now first end → AreTargets asked first end targets
    → length costs ≡ length targets
    → AreGrownCostsTo grown (At (pair_at asked.order.now first).0) targets after
    → AreCostsAtAfter grown asked.pairs.now asked.order.now first (length costs) after
grown-costs-of-pairs None asked first end targets costs after are run aims count to = tt
grown-costs-of-pairs (Some grown) asked first end targets costs after are run aims count to =
    (to.count ∙ sym count, costs-of-pairs asked grown.now first end targets after are run aims to)
