-- The least costs of pairs.
use Rattle.std.specs.Prelude.{◌≡◌, ◌≢◌, ℕ, ◌+◌, ◌<◌, ◌≤◌, List, Option, All, Contains, length, slice_index_or, take}
use Rattle.std.specs.Prelude.{IfSome, None, Some, ⊤, slice_index}
use denote.Ref.{Bor}
use Rattle.least_costs.specs.Costs.{AreCostsTo, IsCostTo}
use Rattle.least_costs.specs.Network.{GrowsTo, NetworkSeen, graph_of}
use Rattle.least_costs.specs.declared.near.above.SharedTargets.{SharedTargets}
use Rattle.least_costs.specs.declared.pairs.PairCosts.{PairCosts}
use Rattle.least_costs.specs.declared.pairs.Pairs.{Pairs}
use Rattle.least_costs.specs.declared.start.Start.{Start}
use Rattle.least_costs.specs.declared.start.Start.TheVariants as start

-- the source and the target at a place of a list of pairs
abbrev pub pair_at : List (ℕ × ℕ) → ℕ → ℕ × ℕ
pair_at pairs k = slice_index_or pairs k (0, 0)

-- source and target are vertices
abbrev pub ArePairsWithin : ℕ → List (ℕ × ℕ) → Type 0
ArePairsWithin n pairs = All (λ pair. (pair.0 < n) × (pair.1 < n)) pairs

-- it is the least cost from the source of a pair to its target, or there is no walk
abbrev pub IsPairCost : NetworkSeen → ℕ × ℕ → Option ℕ → Type 0
IsPairCost net pair cost = IsCostTo net (start.At pair.0) pair.1 cost

-- each pair has its cost
pub record ArePairCosts (net : NetworkSeen) (pairs : List (ℕ × ℕ)) (costs : List (Option ℕ)) : Type 0 where
  pub places : length costs ≡ length pairs
  pub each : (k : ℕ) → k < length pairs → IsPairCost net (pair_at pairs k) (slice_index_or costs k None)

-- the same in the network that it grew to, if there is one
abbrev pub AreCostsAfter : Option (Bor NetworkSeen) → List (ℕ × ℕ) → List (Option ℕ) → Type 0
AreCostsAfter None pairs costs = ⊤
AreCostsAfter (Some grown) pairs costs = ArePairCosts grown.now pairs costs

-- a network grew to another one, if there is one
abbrev pub GrowsInto : NetworkSeen → Option (Bor NetworkSeen) → Type 0
GrowsInto net None = ⊤
GrowsInto net (Some grown) = GrowsTo net grown.now

-- ---- for the proof of `between`: the order in which sources are solved

-- the sources of the pairs, each with the place of its pair, by rising source
pub record AreBySource (pairs order : List (ℕ × ℕ)) : Type 0 where
  pub rise : (k : ℕ) → k + 1 < length order → (pair_at order k).0 ≤ (pair_at order (k + 1)).0
  pub once : length order ≡ length pairs
  pub each : All (λ entry. (entry.1 < length pairs) × (entry.0 ≡ (pair_at pairs entry.1).0)) order
  pub all : (k : ℕ) → k < length pairs → Contains order ((pair_at pairs k).0, k)

-- targets with the places above them in a hierarchy of the network
pub record AreSharedIn (net : NetworkSeen) (shared : SharedTargets) : Type 0 where
  pub of : shared.hierarchy.now.graph ≡ graph_of net
  pub over : shared.sweep.hierarchy ≡ shared.hierarchy.now

-- what is so of all that is asked
pub record AreAsked (asked : Pairs) : Type 0 where
  pub order : AreBySource asked.pairs.now asked.order.now
  pub within : ArePairsWithin asked.network.now.n asked.pairs.now
  pub grows : GrowsInto asked.network.now asked.grown
  pub landmarks : IfSome asked.landmarks (λ l. l.now.graph ≡ graph_of asked.network.now)
  pub shared : IfSome asked.shared (λ s. AreSharedIn asked.network.now s.now)

-- the entries of the order from a place on are of pairs that have these costs
abbrev pub AreCostsAt : NetworkSeen → List (ℕ × ℕ) → List (ℕ × ℕ) → ℕ → List (Option ℕ) → Type 0
AreCostsAt net pairs order place costs =
    (k : ℕ) → k < length costs
    → IsPairCost net (pair_at pairs (pair_at order (place + k)).1) (slice_index_or costs k None)

-- the same in the grown network, if there is one, for as many entries
abbrev pub AreCostsAtAfter : Option (Bor NetworkSeen) → List (ℕ × ℕ) → List (ℕ × ℕ) → ℕ → ℕ → List (Option ℕ) → Type 0
AreCostsAtAfter None pairs order place count costs = ⊤
AreCostsAtAfter (Some grown) pairs order place count costs =
    (length costs ≡ count) × AreCostsAt grown.now pairs order place costs

-- some entries of the order from a place on are of pairs that have these costs, in both networks
pub record AreCostsFrom (asked : Pairs) (place : ℕ) (found : PairCosts) : Type 0 where
  pub some : 1 ≤ length found.costs.items
  pub within : place + length found.costs.items ≤ length asked.order.now
  pub costs : AreCostsAt asked.network.now asked.pairs.now asked.order.now place found.costs.items
  pub after :
      AreCostsAtAfter asked.grown asked.pairs.now asked.order.now place (length found.costs.items) found.after.items

-- the entries from one place up to another one have one source, and the next entry, if there is one, has another
pub record IsRun (order : List (ℕ × ℕ)) (first end : ℕ) : Type 0 where
  pub some : first < end
  pub within : end ≤ length order
  pub alike : (k : ℕ) → first ≤ k → k < end → (pair_at order first).0 ≡ (pair_at order k).0
  pub ends : end < length order → (pair_at order first).0 ≢ (pair_at order end).0

-- the pairs of the first entries have their costs
pub record AreFilled (net : NetworkSeen) (pairs order : List (ℕ × ℕ)) (count : ℕ) (costs : List (Option ℕ)) : Type 0
  where
    pub places : length costs ≡ length pairs
    pub filled : All (λ entry. IsPairCost net (pair_at pairs entry.1) (slice_index_or costs entry.1 None)) (take count order)

-- the same in the grown network, if there is one
abbrev pub AreFilledAfter : Option (Bor NetworkSeen) → List (ℕ × ℕ) → List (ℕ × ℕ) → ℕ → List (Option ℕ) → Type 0
AreFilledAfter None pairs order count costs = ⊤
AreFilledAfter (Some grown) pairs order count costs = AreFilled grown.now pairs order count costs

-- the costs to some vertices in the grown network, if there is one
abbrev pub AreGrownCostsTo : Option (Bor NetworkSeen) → Start → List ℕ → List (Option ℕ) → Type 0
AreGrownCostsTo None from vertices costs = ⊤
AreGrownCostsTo (Some grown) from vertices costs = AreCostsTo grown.now from vertices costs

-- the targets of the pairs of the entries from one place up to another one
pub record AreTargets (asked : Pairs) (first end : ℕ) (targets : List ℕ) : Type 0 where
  pub count : first + length targets ≡ end
  pub each : (k : ℕ) → k < length targets
      → slice_index targets k ≡ (pair_at asked.pairs.now (pair_at asked.order.now (first + k)).1).1
  pub within : All (λ t. t < asked.network.now.n) targets
