-- Labels that are least up to a limit: what labels are worth before they are settled.
use Rattle.std.specs.Prelude.{◌≡◌, ℕ, ◌+◌, ◌<◌, ◌≤◌, ◌⊎◌, min, List, All, length, slice_index}
use Rattle.route_walks.specs.declared.graph.ArcRec.{ArcRec}
use Rattle.route_walks.specs.declared.graph.Seed.{Seed}
use Rattle.route_walks.specs.declared.graph.TheConstants.{INF}
use Rattle.route_walks.specs.Walk.{IsAttained, IsWalk, cost}
use Rattle.route_walks.specs.Label.{IsMet, IsRelaxed, IsSound, AreCapped, IsLeast}

-- d is the least label of v up to a limit: at most INF, attained below INF, and each number attained at v is at least d
-- or the limit
pub record IsLeastUpTo (limit : ℕ) (arcs : List ArcRec) (seeds : List Seed) (v d : ℕ) : Type 0 where
  pub capped : d ≤ INF
  pub attained : d < INF → IsAttained arcs seeds v d
  pub least : (c : ℕ) → IsAttained arcs seeds v c → (d ≤ c) ⊎ (limit ≤ c)

-- each of n vertices has its least label up to a limit
abbrev pub AreLeastUpTo : ℕ → ℕ → List ArcRec → List Seed → (ℕ → ℕ) → Type 0
AreLeastUpTo limit n arcs seeds label = (v : ℕ) → v < n → IsLeastUpTo limit arcs seeds v (label v)

-- a list of labels of n vertices that are least up to a limit
pub record AreLeastLabelsUpTo (limit n : ℕ) (arcs : List ArcRec) (seeds : List Seed)
    (labels : List ℕ) : Type 0 where
  pub count : length labels ≡ n
  pub least : AreLeastUpTo limit n arcs seeds (slice_index labels)

-- an arc is relaxed up to a limit: it is relaxed, or offers at least the limit
abbrev pub IsRelaxedUpTo : ℕ → (ℕ → ℕ) → ArcRec → Type 0
IsRelaxedUpTo limit label arc = IsRelaxed label arc ⊎ (limit ≤ label arc.tail + arc.weight)

-- labels are settled up to a limit: all seeds are met and all arcs are relaxed up to it
pub record AreSettledUpTo (limit : ℕ) (arcs : List ArcRec) (seeds : List Seed) (label : ℕ → ℕ) : Type 0 where
  pub met : All (IsMet label) seeds
  pub relaxed : All (IsRelaxedUpTo limit label) arcs

-- from a label d at v each walk to t costs at least the limit
abbrev pub IsPast : ℕ → List ArcRec → ℕ → ℕ → ℕ → Type 0
IsPast limit arcs t v d = (walk : List ArcRec) → IsWalk arcs v walk t → limit ≤ d + cost walk

-- d is the least label of v up to a limit on the way to t: at most INF, attained below INF, and each number that is
-- attained at v is at least d, or from it each walk to t costs at least the limit
pub record IsLeastToward (limit : ℕ) (arcs : List ArcRec) (seeds : List Seed) (t v d : ℕ) : Type 0 where
  pub capped : d ≤ INF
  pub attained : d < INF → IsAttained arcs seeds v d
  pub least : (c : ℕ) → IsAttained arcs seeds v c → (d ≤ c) ⊎ IsPast limit arcs t v c

-- each of n vertices has its least label up to a limit on the way to t
abbrev pub AreLeastToward : ℕ → ℕ → List ArcRec → List Seed → ℕ → (ℕ → ℕ) → Type 0
AreLeastToward limit n arcs seeds t label = (v : ℕ) → v < n → IsLeastToward limit arcs seeds t v (label v)

-- an arc is relaxed up to a limit on the way to t: it is relaxed, or from what it offers each walk to t costs at
-- least the limit
abbrev pub IsRelaxedToward : ℕ → List ArcRec → ℕ → (ℕ → ℕ) → ArcRec → Type 0
IsRelaxedToward limit arcs t label arc =
    IsRelaxed label arc ⊎ IsPast limit arcs t arc.head (label arc.tail + arc.weight)

-- labels are settled up to a limit on the way to t: all seeds are met and all arcs are relaxed up to it
pub record AreSettledToward (limit : ℕ) (arcs : List ArcRec) (seeds : List Seed) (t : ℕ) (label : ℕ → ℕ) : Type 0
  where
    pub met : All (IsMet label) seeds
    pub relaxed : All (IsRelaxedToward limit arcs t label) arcs

-- a label is exact within a bound: within it, it is least, and if the least label is within it, it is that one
pub record IsExactWithin (bound : ℕ) (arcs : List ArcRec) (seeds : List Seed) (v d : ℕ) : Type 0 where
  pub least : d ≤ bound → IsLeast arcs seeds v d
  pub found : (e : ℕ) → IsLeast arcs seeds v e → e ≤ bound → d ≡ e

-- labels that are settled up to a limit and sound are least up to it
abbrev pub SettledUpToIsLeastUpTo : Type 0
SettledUpToIsLeastUpTo =
    (limit n : ℕ) (arcs : List ArcRec) (seeds : List Seed) (label : ℕ → ℕ)
    → AreCapped n label
    → AreSettledUpTo limit arcs seeds label
    → IsSound n arcs seeds label
    → AreLeastUpTo limit n arcs seeds label

-- a label of at most the limit that is least up to it is least
abbrev pub LeastUpToIsLeast : Type 0
LeastUpToIsLeast =
    (limit : ℕ) (arcs : List ArcRec) (seeds : List Seed) (v d : ℕ)
    → IsLeastUpTo limit arcs seeds v d
    → d ≤ limit
    → IsLeast arcs seeds v d

-- a least label is least up to each limit
abbrev pub LeastIsLeastUpTo : Type 0
LeastIsLeastUpTo =
    (limit : ℕ) (arcs : List ArcRec) (seeds : List Seed) (v d : ℕ)
    → IsLeast arcs seeds v d
    → IsLeastUpTo limit arcs seeds v d

-- a label that is least up to a limit is no lower than the least one, and cut at the limit both are the same
abbrev pub LeastUpToAgrees : Type 0
LeastUpToAgrees =
    (limit : ℕ) (arcs : List ArcRec) (seeds : List Seed) (v d e : ℕ)
    → IsLeastUpTo limit arcs seeds v d
    → IsLeast arcs seeds v e
    → (e ≤ d) × (min d limit ≡ min e limit)

-- a label that is least up to the number after a bound, or up to INF, is exact within the bound
abbrev pub WithinIsExact : Type 0
WithinIsExact =
    (limit bound : ℕ) (arcs : List ArcRec) (seeds : List Seed) (v d : ℕ)
    → IsLeastUpTo limit arcs seeds v d
    → min (bound + 1) INF ≤ limit
    → IsExactWithin bound arcs seeds v d

-- below the limit walks of least cost are tight: if what is attained at u and the cost of a walk make the label of its
-- end, which is below the limit, u has just that label
abbrev pub WalksBelowAreTight : Type 0
WalksBelowAreTight =
    (limit n : ℕ) (arcs : List ArcRec) (seeds : List Seed) (label : ℕ → ℕ)
    → AreLeastUpTo limit n arcs seeds label
    → (u v b : ℕ) (walk : List ArcRec)
    → u < n → v < n
    → IsAttained arcs seeds u b
    → IsWalk arcs u walk v
    → b + cost walk ≡ label v
    → label v < limit
    → label u ≡ b

-- labels that are settled up to a limit on the way to t and sound are least up to it on that way
abbrev pub SettledTowardIsLeastToward : Type 0
SettledTowardIsLeastToward =
    (limit n : ℕ) (arcs : List ArcRec) (seeds : List Seed) (t : ℕ) (label : ℕ → ℕ)
    → AreCapped n label
    → AreSettledToward limit arcs seeds t label
    → IsSound n arcs seeds label
    → AreLeastToward limit n arcs seeds t label

-- a label of t that is least up to a limit on the way to t is least up to the limit
abbrev pub LeastTowardIsLeastUpTo : Type 0
LeastTowardIsLeastUpTo =
    (limit : ℕ) (arcs : List ArcRec) (seeds : List Seed) (t d : ℕ)
    → IsLeastToward limit arcs seeds t t d
    → IsLeastUpTo limit arcs seeds t d

-- a label that is least up to a limit is so on each way
abbrev pub LeastUpToIsLeastToward : Type 0
LeastUpToIsLeastToward =
    (limit : ℕ) (arcs : List ArcRec) (seeds : List Seed) (t v d : ℕ)
    → IsLeastUpTo limit arcs seeds v d
    → IsLeastToward limit arcs seeds t v d

-- on the way to t walks of least cost are tight: where what is attained at u and the cost of a walk make the label of
-- t, which is below the limit, u has just that label
abbrev pub WalksTowardAreTight : Type 0
WalksTowardAreTight =
    (limit n : ℕ) (arcs : List ArcRec) (seeds : List Seed) (t : ℕ) (label : ℕ → ℕ)
    → AreLeastToward limit n arcs seeds t label
    → (u b : ℕ) (walk : List ArcRec)
    → u < n → t < n
    → IsAttained arcs seeds u b
    → IsWalk arcs u walk t
    → b + cost walk ≡ label t
    → label t < limit
    → label u ≡ b
