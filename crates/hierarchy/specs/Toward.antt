-- Costs from one source to many targets: of these the places above are listed, each after those that it leads to.
use Rattle.std.specs.Prelude.{◌≡◌, ℕ, ◌<◌, Bool, true, false, List, All, Contains, map, slice_index, slice_index_or}
use Rattle.near_labels.specs.Sweep.{IsUpward}
use Rattle.hierarchy.specs.Hierarchy.{HierarchySeen}

-- the order has places of the hierarchy, each of which leads to earlier ones alone; the ends are those of the targets, and
-- stand there
pub record IsOrderFor (hierarchy : HierarchySeen) (targets ends order : List ℕ) : Type 0 where
  pub inside : All (λ t. t < hierarchy.graph.n) targets
  pub placed : ends ≡ map (slice_index hierarchy.places) targets
  pub known : All (λ place. place < hierarchy.graph.n) order
  pub upward : IsUpward hierarchy.down.arcs order
  pub within : All (Contains order) ends

-- a vertex that is seen is among the first of the order
abbrev pub AreSeen : List ℕ → ℕ → List Bool → Type 0
AreSeen order count seen =
    (v : ℕ) → slice_index_or seen v false ≡ true → (j : ℕ) × (j < count) × (slice_index order j ≡ v)

-- a sweep as contracts see it
pub record SweepSeen : Type 0 where
  pub hierarchy : HierarchySeen
  pub targets : List ℕ
