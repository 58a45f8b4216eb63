use Rattle.std.proofs.Common.{List, ℕ, [], ◌∷◌, ◌++◌, take}
use Rattle.least_costs.specs.Taken.{AreFor}
use Rattle.cost_examples.specs.Spares.{AreNearest}
use Rattle.cost_examples.proofs.spare.with_costs.Given as goal

abbrev pub invariant-loop-k : goal.invariant-loop-k
invariant-loop-k l =
    (depots : List ℕ)
    → AreFor (λ v choice. AreNearest l.costs.net v depots choice) l.customers l.found
    → AreFor (λ v choice. AreNearest l.costs.net v (depots ++ l.depot ∷ []) choice) (take l.k l.customers) l.next.items
