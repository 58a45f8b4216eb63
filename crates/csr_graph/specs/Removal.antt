-- Pairs of vertices as numbers that rise, by which arcs are removed, and the lists of rows that are joined. No promise to
-- callers.
use Rattle.std.specs.Prelude.{◌≡◌, ℕ, Bool, true, false, not, ◌+◌, ◌*◌, ◌^◌, ◌<◌, ◌≤◌, ◌==◌, List, filter, map, length, All}
use Rattle.std.specs.Prelude.{slice_index, slice_index_or}
use Rattle.std.specs.List.{list_any}
use Rattle.std.specs.List.Sorted.{IsNonDecreasing, IsPermutation}
use Rattle.route_walks.specs.declared.graph.ArcRec.{ArcRec}
use Rattle.csr_graph.specs.declared.target.Target.{Target}
use Rattle.csr_graph.specs.Graph.{arc_to, first_place, row_of, target_of}
use Rattle.csr_graph.specs.Layout.{joined}

-- one number for the two vertices of a pair
abbrev pub key_of : ℕ × ℕ → ℕ
key_of pair = pair.0 * 2 ^ 32 + pair.1

-- the numbers of these pairs, from the smallest on
pub record AreKeysOf (pairs : List (ℕ × ℕ)) (keys : List ℕ) : Type 0 where
  pub heads : All (λ pair. pair.1 < 2 ^ 32) pairs
  pub same : IsPermutation (map key_of pairs) keys
  pub rising : IsNonDecreasing keys

-- the number of an arc's two vertices is among these
abbrev pub has_key : List ℕ → ArcRec → Bool
has_key keys arc = list_any (λ key. key == key_of (arc.tail, arc.head)) keys

-- of a row's targets those to which no arc leads that has one of these keys
abbrev pub unkeyed : List ℕ → ℕ → List Target → List Target
unkeyed keys tail row = map target_of (filter (λ arc. not (has_key keys arc)) (map (arc_to tail) row))

-- a vertex has a mark
abbrev pub HasMark : List Bool → ℕ → Type 0
HasMark marks u = u < length marks → slice_index_or marks u false ≡ true

-- the keys of pairs, and marks of the vertices at which they or the added arcs begin
pub record AreTouched (pairs : List (ℕ × ℕ)) (added : List ArcRec) (keys : List ℕ) (marks : List Bool) : Type 0 where
  pub keys_are : AreKeysOf pairs keys
  pub removed : All (λ pair. HasMark marks pair.0) pairs
  pub come : All (λ arc. HasMark marks arc.tail) added

-- the rows of `count` vertices from one on, one after the other
abbrev pub rows_from : List ArcRec → ℕ → ℕ → List ArcRec
rows_from arcs from count = joined (λ j. row_of arcs (from + j)) count

-- two lists have the same rows from one vertex on and before another
abbrev pub HaveRowsBetween : ℕ → ℕ → List ArcRec → List ArcRec → Type 0
HaveRowsBetween from to xs ys = (u : ℕ) → from ≤ u → u < to → row_of xs u ≡ row_of ys u

-- where the rows of the vertices below `count` begin
pub record AreFirsts (count : ℕ) (arcs : List ArcRec) (firsts : List ℕ) : Type 0 where
  pub rows : length firsts ≡ count
  pub begins : (u : ℕ) → u < count → slice_index firsts u ≡ first_place arcs u

-- and where their arcs lead
pub record AreJoined (count : ℕ) (arcs : List ArcRec) (firsts : List ℕ) (targets : List Target) : Type 0 where
  pub begin : AreFirsts count arcs firsts
  pub leads : targets ≡ map target_of (joined (row_of arcs) count)

-- the rows before one vertex are joined, and those from it on and before another have no mark
pub record AreJoinedUpTo (from tail : ℕ) (arcs : List ArcRec) (marks : List Bool) (firsts : List ℕ)
    (targets : List Target) : Type 0 where
  pub before : from ≤ tail
  pub joined : AreJoined from arcs firsts targets
  pub unmarked : (u : ℕ) → from ≤ u → u < tail → slice_index_or marks u false ≡ false
