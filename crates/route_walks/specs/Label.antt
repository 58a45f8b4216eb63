-- Labels of vertices, read as functions from the vertex: when they are least, settled, sound.
use Rattle.std.specs.Prelude.{◌≡◌, ℕ, ◌+◌, ◌^◌, ◌<◌, ◌≤◌, ◌↔◌, min, List, All, length, slice_index}
use Rattle.route_walks.specs.declared.graph.ArcRec.{ArcRec}
use Rattle.route_walks.specs.declared.graph.Seed.{Seed}
use Rattle.route_walks.specs.declared.graph.TheConstants.{INF, MAX_VERTICES}
use Rattle.route_walks.specs.Walk.{IsAttained, HaveSameArcs, IsGraph, AreSeeds}
use Rattle.route_walks.specs.Operators.{seeds_of}

-- d is the least label of v: the smallest number attained there, or INF where none below INF is
pub record IsLeast (arcs : List ArcRec) (seeds : List Seed) (v d : ℕ) : Type 0 where
  pub capped : d ≤ INF
  pub attained : d < INF → IsAttained arcs seeds v d
  pub least : (c : ℕ) → IsAttained arcs seeds v c → d ≤ c

-- each of n vertices has its least label
abbrev pub AreLeast : ℕ → List ArcRec → List Seed → (ℕ → ℕ) → Type 0
AreLeast n arcs seeds label = (v : ℕ) → v < n → IsLeast arcs seeds v (label v)

-- a list of the least labels of n vertices
pub record AreLeastLabels (n : ℕ) (arcs : List ArcRec) (seeds : List Seed)
    (labels : List ℕ) : Type 0 where
  pub count : length labels ≡ n
  pub least : AreLeast n arcs seeds (slice_index labels)

-- a seed is met: its vertex has a label of at most its start
abbrev pub IsMet : (ℕ → ℕ) → Seed → Type 0
IsMet label seed = label seed.vertex ≤ seed.start

-- what an arc of this weight offers its head, from a tail of this label: their sum, at most INF
abbrev pub offer : ℕ → ℕ → ℕ
offer label weight = min (label + weight) INF

-- an arc is relaxed: it offers its head no lower label
abbrev pub IsRelaxed : (ℕ → ℕ) → ArcRec → Type 0
IsRelaxed label arc = label arc.head ≤ offer (label arc.tail) arc.weight

-- labels are settled: all seeds are met and all arcs are relaxed
pub record IsSettled (arcs : List ArcRec) (seeds : List Seed) (label : ℕ → ℕ) : Type 0 where
  pub met : All (IsMet label) seeds
  pub relaxed : All (IsRelaxed label) arcs

-- labels are sound: among n vertices, every label below INF is attained
abbrev pub IsSound : ℕ → List ArcRec → List Seed → (ℕ → ℕ) → Type 0
IsSound n arcs seeds label = (v : ℕ) → v < n → label v < INF → IsAttained arcs seeds v (label v)

-- no label among n vertices is above INF
abbrev pub AreCapped : ℕ → (ℕ → ℕ) → Type 0
AreCapped n label = (v : ℕ) → v < n → label v ≤ INF

-- labels that are settled and sound are least
abbrev pub SettledAndSoundAreLeast : Type 0
SettledAndSoundAreLeast =
    (n : ℕ) (arcs : List ArcRec) (seeds : List Seed) (label : ℕ → ℕ)
    → AreCapped n label
    → IsSettled arcs seeds label
    → IsSound n arcs seeds label
    → AreLeast n arcs seeds label

-- least labels are settled and sound
abbrev pub LeastLabelsAreSettled : Type 0
LeastLabelsAreSettled =
    (n : ℕ) (arcs : List ArcRec) (seeds : List Seed) (label : ℕ → ℕ)
    → IsGraph n arcs
    → AreSeeds n seeds
    → AreLeast n arcs seeds label
    → AreCapped n label × IsSettled arcs seeds label × IsSound n arcs seeds label

-- a vertex has only one least label
abbrev pub LeastLabelsAreUnique : Type 0
LeastLabelsAreUnique =
    (arcs : List ArcRec) (seeds : List Seed) (v c d : ℕ)
    → IsLeast arcs seeds v c
    → IsLeast arcs seeds v d
    → c ≡ d

-- lists with the same arcs have the same least labels
abbrev pub LeastLabelsFollowTheArcs : Type 0
LeastLabelsFollowTheArcs =
    (n : ℕ) (one other : List ArcRec) (seeds : List Seed) (labels : List ℕ)
    → HaveSameArcs one other
    → AreLeastLabels n one seeds labels
    → AreLeastLabels n other seeds labels

-- INF means that no walk exists: if weights are below 2^32 and starts at most 2^60, nothing is attained at a vertex
-- whose least label is INF
abbrev pub InfMeansNoWalk : Type 0
InfMeansNoWalk =
    (n : ℕ) (arcs : List ArcRec) (seeds : List Seed) (labels : List ℕ)
    → n ≤ MAX_VERTICES
    → IsGraph n arcs
    → All (λ arc. arc.weight < 2 ^ 32) arcs
    → AreSeeds n seeds
    → All (λ seed. seed.start ≤ 2 ^ 60) seeds
    → AreLeastLabels n arcs seeds labels
    → (v : ℕ) → v < n
    → slice_index labels v ≡ INF
    → (c : ℕ) → ¬ (IsAttained arcs seeds v c)

-- labels that are sound and meet the seeds serve as seeds: the least labels from them are those from the seeds
abbrev pub LabelsServeAsSeeds : Type 0
LabelsServeAsSeeds =
    (n : ℕ) (arcs : List ArcRec) (seeds : List Seed) (labels least : List ℕ)
    → AreSeeds n seeds
    → length labels ≡ n
    → IsSound n arcs seeds (slice_index labels)
    → All (IsMet (slice_index labels)) seeds
    → AreLeastLabels n arcs (seeds_of labels) least ↔ AreLeastLabels n arcs seeds least
