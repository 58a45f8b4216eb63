-- Walks, their costs, and the numbers that they attain (as in Ahuja, Magnanti and Orlin, Network Flows, chapters 2 and
-- 4).
use Rattle.std.specs.Prelude.{◌≡◌, ℕ, ◌+◌, ◌<◌, ◌≤◌, ◌↔◌, List, [], ◌∷◌, length, All, Contains}
use Rattle.route_walks.specs.declared.graph.ArcRec.{ArcRec}
use Rattle.route_walks.specs.declared.graph.Seed.{Seed}

-- the ends of an arc are among n vertices
abbrev pub IsArcBelow : ℕ → ArcRec → Type 0
IsArcBelow n arc = (arc.tail < n) × (arc.head < n)

-- the ends of all arcs are among n vertices
abbrev pub IsGraph : ℕ → List ArcRec → Type 0
IsGraph n arcs = All (IsArcBelow n) arcs

-- each arc of one list is an arc of the other, and the other way round
abbrev pub HaveSameArcs : List ArcRec → List ArcRec → Type 0
HaveSameArcs one other = (arc : ArcRec) → (Contains one arc) ↔ (Contains other arc)

-- the vertices of all seeds are among n vertices
abbrev pub AreSeeds : ℕ → List Seed → Type 0
AreSeeds n seeds = All (λ seed. seed.vertex < n) seeds

-- a walk from u to v: arcs of the graph, the first leaving u, each head the next tail, the last entering v; or none, if
-- u is v
abbrev pub IsWalk : List ArcRec → ℕ → List ArcRec → ℕ → Type 0
IsWalk arcs u [] v = u ≡ v
IsWalk arcs u (arc ∷ walk) v =
    Contains arcs arc
    × (arc.tail ≡ u)
    × IsWalk arcs arc.head walk v

-- the sum of a walk's weights
abbrev pub cost : List ArcRec → ℕ
cost [] = 0
cost (arc ∷ walk) = arc.weight + cost walk

-- c is attained at v: the start of some seed and the cost of some walk from there to v make c
pub record IsAttained (arcs : List ArcRec) (seeds : List Seed) (v c : ℕ) : Type 0 where
  pub seed : Seed
  pub walk : List ArcRec
  pub seeded : Contains seeds seed
  pub walks : IsWalk arcs seed.vertex walk v
  pub costs : seed.start + cost walk ≡ c

-- some walk from u to v has fewer than n arcs and costs no more than the given number
pub record HasShortWalk (n : ℕ) (arcs : List ArcRec) (u v most : ℕ) : Type 0 where
  pub walk : List ArcRec
  pub walks : IsWalk arcs u walk v
  pub short : length walk < n
  pub cheap : cost walk ≤ most

-- among n vertices a walk can be cut to fewer than n arcs, at no more cost
abbrev pub WalksCanBeCut : Type 0
WalksCanBeCut =
    (n : ℕ) (arcs : List ArcRec) (u v : ℕ) (walk : List ArcRec)
    → IsGraph n arcs
    → u < n
    → IsWalk arcs u walk v
    → HasShortWalk n arcs u v (cost walk)
