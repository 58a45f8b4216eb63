-- One depot more.
use Rattle.std.proofs.Common.{◌≡◌, ◌≢◌, ℕ, ◌≤◌, List, [], ◌∷◌, ◌++◌, arith, refl, subst, sym, inl, inr}
use Rattle.std.proofs.lemmas.Bool.{cases_eq}
use Rattle.std.proofs.lemmas.List.Elements.{All-push, All-weaker, Contains-append_left, Contains-push}
use Rattle.least_costs.specs.Costs.{IsLeastCost, IsUnreached}
use Rattle.least_costs.specs.Network.{HasWalk, NetworkSeen}
use Rattle.least_costs.specs.declared.start.Start.TheVariants.{At}
use Rattle.cost_examples.specs.Callers.{IsFarther}
use Rattle.cost_examples.specs.declared.choice.Choice.{Choice}
use Rattle.cost_examples.specs.declared.choice.Choices.{Choices}
use Rattle.cost_examples.specs.declared.choice.Choices.TheVariants.{Nowhere, One, Two}
use Rattle.cost_examples.specs.Spares.{AreNearest, IsChoice}

-- depots besides this one have no walk
abbrev AreUnreached : NetworkSeen → ℕ → ℕ → ℕ → Type 0
AreUnreached net v but depot = depot ≢ but → IsUnreached net (At depot) v

-- depots besides this one are no nearer
abbrev AreFarther : NetworkSeen → ℕ → ℕ → ℕ → ℕ → Type 0
AreFarther net v but least depot = depot ≢ but → IsFarther net v least depot

kept : (net : NetworkSeen) (v : ℕ) (depots : List ℕ) (depot : ℕ) (c : Choice)
    → IsChoice net v depots c → IsChoice net v (depots ++ depot ∷ []) c
kept net v depots depot c is = (Contains-append_left depots (depot ∷ []) c.depot is.0, is.1)

-- no walk to the depot is shorter than to the one that it is
same-far : (net : NetworkSeen) (v : ℕ) (c : Choice) (depot : ℕ)
    → IsLeastCost net (At c.depot) v c.cost → depot ≡ c.depot → IsFarther net v c.cost depot
same-far net v c depot is same cost walk = is.least cost (subst (λ (d : ℕ). HasWalk net (At d) v cost) same walk)

pub first : (net : NetworkSeen) (v : ℕ) (depots : List ℕ) (new : Choice)
    → AreNearest net v depots Nowhere
    → IsLeastCost net (At new.depot) v new.cost
    → AreNearest net v (depots ++ new.depot ∷ []) (One new)
first net v depots new before now = (
  (Contains-push depots new.depot, now),
  All-push (AreUnreached net v new.depot) depots new.depot
      (All-weaker (λ depot. IsUnreached net (At depot) v) (AreUnreached net v new.depot) (λ depot none other. none) depots
      before)
      (λ other. absurd (other refl)),
)

pub one-same : (net : NetworkSeen) (v : ℕ) (depots : List ℕ) (best : Choice) (depot : ℕ)
    → AreNearest net v depots (One best) → best.depot ≡ depot → AreNearest net v (depots ++ depot ∷ []) (One best)
one-same net v depots best depot before same = (
  kept net v depots depot best before.0,
  All-push (AreUnreached net v best.depot) depots depot before.1 (λ other. absurd (other (sym same))),
)

pub one-nearer : (net : NetworkSeen) (v : ℕ) (depots : List ℕ) (best new : Choice)
    → AreNearest net v depots (One best) → best.depot ≢ new.depot → new.cost ≤ best.cost
    → IsLeastCost net (At new.depot) v new.cost
    → AreNearest net v (depots ++ new.depot ∷ []) (Two new best)
one-nearer net v depots best new before differ less now = (
  (Contains-push depots new.depot, now),
  kept net v depots new.depot best before.0,
  (λ same. differ (sym same)),
  less,
  All-push (AreFarther net v new.depot best.cost) depots new.depot
      (All-weaker (AreUnreached net v best.depot) (AreFarther net v new.depot best.cost)
      (λ depot none other cost walk.
      elim (cases_eq depot best.depot) [
        | inl same ↦ same-far net v best depot before.0.1 same cost walk
        | inr differs ↦ absurd (none differs cost walk)
      ])
      depots before.1)
      (λ other. absurd (other refl)),
)

pub one-farther : (net : NetworkSeen) (v : ℕ) (depots : List ℕ) (best new : Choice)
    → AreNearest net v depots (One best) → best.depot ≢ new.depot → best.cost ≤ new.cost
    → IsLeastCost net (At new.depot) v new.cost
    → AreNearest net v (depots ++ new.depot ∷ []) (Two best new)
one-farther net v depots best new before differ less now = (
  kept net v depots new.depot best before.0,
  (Contains-push depots new.depot, now),
  differ,
  less,
  All-push (AreFarther net v best.depot new.cost) depots new.depot
      (All-weaker (AreUnreached net v best.depot) (AreFarther net v best.depot new.cost)
      (λ depot none other cost walk. absurd (none other cost walk)) depots before.1)
      (λ other cost walk. now.least cost walk),
)

pub two-same : (net : NetworkSeen) (v : ℕ) (depots : List ℕ) (best next : Choice) (depot : ℕ)
    → AreNearest net v depots (Two best next) → best.depot ≡ depot
    → AreNearest net v (depots ++ depot ∷ []) (Two best next)
two-same net v depots best next depot before same = (
  kept net v depots depot best before.0,
  kept net v depots depot next before.1,
  before.2,
  before.3,
  All-push (AreFarther net v best.depot next.cost) depots depot before.4 (λ other. absurd (other (sym same))),
)

pub two-same-next : (net : NetworkSeen) (v : ℕ) (depots : List ℕ) (best next : Choice) (depot : ℕ)
    → AreNearest net v depots (Two best next) → next.depot ≡ depot
    → AreNearest net v (depots ++ depot ∷ []) (Two best next)
two-same-next net v depots best next depot before same = (
  kept net v depots depot best before.0,
  kept net v depots depot next before.1,
  before.2,
  before.3,
  All-push (AreFarther net v best.depot next.cost) depots depot before.4
      (λ other. same-far net v next depot before.1.1 (sym same)),
)

pub two-nearer : (net : NetworkSeen) (v : ℕ) (depots : List ℕ) (best next new : Choice)
    → AreNearest net v depots (Two best next) → best.depot ≢ new.depot → new.cost ≤ best.cost
    → IsLeastCost net (At new.depot) v new.cost
    → AreNearest net v (depots ++ new.depot ∷ []) (Two new best)
two-nearer net v depots best next new before differ less now = (
  (Contains-push depots new.depot, now),
  kept net v depots new.depot best before.0,
  (λ same. differ (sym same)),
  less,
  All-push (AreFarther net v new.depot best.cost) depots new.depot
      (All-weaker (AreFarther net v best.depot next.cost) (AreFarther net v new.depot best.cost)
      (λ depot far other cost walk.
      elim (cases_eq depot best.depot) [
        | inl same ↦ same-far net v best depot before.0.1 same cost walk
        | inr differs ↦ omega (arith, far differs cost walk, before.3)
      ])
      depots before.4)
      (λ other. absurd (other refl)),
)

pub two-between : (net : NetworkSeen) (v : ℕ) (depots : List ℕ) (best next new : Choice)
    → AreNearest net v depots (Two best next) → best.depot ≢ new.depot → best.cost ≤ new.cost → new.cost ≤ next.cost
    → IsLeastCost net (At new.depot) v new.cost
    → AreNearest net v (depots ++ new.depot ∷ []) (Two best new)
two-between net v depots best next new before differ more less now = (
  kept net v depots new.depot best before.0,
  (Contains-push depots new.depot, now),
  differ,
  more,
  All-push (AreFarther net v best.depot new.cost) depots new.depot
      (All-weaker (AreFarther net v best.depot next.cost) (AreFarther net v best.depot new.cost)
      (λ depot far other cost walk. omega (arith, far other cost walk, less)) depots before.4)
      (λ other cost walk. now.least cost walk),
)

pub two-farther : (net : NetworkSeen) (v : ℕ) (depots : List ℕ) (best next new : Choice)
    → AreNearest net v depots (Two best next) → next.cost ≤ new.cost
    → IsLeastCost net (At new.depot) v new.cost
    → AreNearest net v (depots ++ new.depot ∷ []) (Two best next)
two-farther net v depots best next new before more now = (
  kept net v depots new.depot best before.0,
  kept net v depots new.depot next before.1,
  before.2,
  before.3,
  All-push (AreFarther net v best.depot next.cost) depots new.depot before.4
      (λ other cost walk. omega (arith, more, now.least cost walk)),
)

pub none-more : (net : NetworkSeen) (v : ℕ) (depots : List ℕ) (depot : ℕ) (found : Choices)
    → AreNearest net v depots found → IsUnreached net (At depot) v → AreNearest net v (depots ++ depot ∷ []) found
none-more net v depots depot Nowhere before none = All-push (λ each. IsUnreached net (At each) v) depots depot before none
none-more net v depots depot (One best) before none = (
  kept net v depots depot best before.0,
  All-push (AreUnreached net v best.depot) depots depot before.1 (λ other. none),
)
none-more net v depots depot (Two best next) before none = (
  kept net v depots depot best before.0,
  kept net v depots depot next before.1,
  before.2,
  before.3,
  All-push (AreFarther net v best.depot next.cost) depots depot before.4 (λ other cost walk. absurd (none cost walk)),
)
