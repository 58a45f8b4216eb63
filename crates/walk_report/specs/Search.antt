-- The search for hops: what is true of the hops so far and of the queue. No promise to callers.
use Rattle.std.specs.Prelude.{◌≡◌, ℕ, ◌+◌, ◌<◌, ◌≤◌, ◌==◌, ◌⊎◌, List, length, slice_index}
use Rattle.std.specs.Prelude.{count_by, All, Contains}
use Rattle.route_walks.specs.declared.graph.ArcRec.{ArcRec}
use Rattle.walk_report.specs.declared.hop.TheConstants.{NONE}
use Rattle.walk_report.specs.Hop.{HasWalk}

-- an arc is tight below a limit: going along it gives its head's label, which is below the limit
abbrev pub IsTightBelow : ℕ → (ℕ → ℕ) → ArcRec → Type 0
IsTightBelow limit label arc = (label arc.tail + arc.weight ≡ label arc.head) × (label arc.head < limit)

-- v has a hop, of at most the given number
abbrev pub IsReached : (ℕ → ℕ) → ℕ → ℕ → Type 0
IsReached hop most v = (hop v ≤ most) × (hop v < NONE)

-- the head of each tight arc that leaves u is reached, by at most one hop more
abbrev pub IsVisited : ℕ → List ArcRec → (ℕ → ℕ) → (ℕ → ℕ) → ℕ → Type 0
IsVisited limit arcs label hop u =
    (arc : ArcRec) → Contains arcs arc → arc.tail ≡ u → IsTightBelow limit label arc
    → IsReached hop (hop u + 1) arc.head

-- some walk from s to v along arcs that are tight below a limit costs d and has h arcs
pub record HasTightWalk (limit : ℕ) (arcs : List ArcRec) (label : ℕ → ℕ) (s v d h : ℕ) : Type 0 where
  pub walk : HasWalk arcs s v d h
  pub tight : All (IsTightBelow limit label) walk.walk

-- the vertex v was found as the k-th: a walk from s of its label's cost, below the limit, has h arcs, at most k
pub record IsFound (limit n : ℕ) (arcs : List ArcRec) (label : ℕ → ℕ) (s v h k : ℕ) : Type 0 where
  pub vertex : v < n
  pub early : h ≤ k
  pub walk : HasTightWalk limit arcs label s v (label v) h
  pub low : label v < limit

-- breadth-first search below a limit from the first vertex of the queue, with those before the place next visited
pub record IsSearch (limit n : ℕ) (arcs : List ArcRec) (label : ℕ → ℕ)
    (hops queue : List ℕ) (next : ℕ) : Type 0 where
  pub vertices : length hops ≡ n
  pub room : count_by (λ hop. hop == NONE) hops + length queue ≡ n
  pub fits : (v : ℕ) → v < n → slice_index hops v ≤ NONE
  pub found : (k : ℕ) → k < length queue
      → IsFound limit n arcs label (slice_index queue 0) (slice_index queue k) (slice_index hops (slice_index queue k)) k
  pub rising : (k : ℕ) → k + 1 < length queue
      → slice_index hops (slice_index queue k) ≤ slice_index hops (slice_index queue (k + 1))
  pub near : (k : ℕ) → k < length queue → next < length queue
      → slice_index hops (slice_index queue k) ≤ slice_index hops (slice_index queue next) + 1
  pub queued : (v : ℕ) → v < n → slice_index hops v < NONE
      → (k : ℕ) × (k < length queue) × (slice_index queue k ≡ v)
  pub visited : (k : ℕ) → k < next → IsVisited limit arcs label (slice_index hops) (slice_index queue k)

-- a list of numbers of n vertices, which is NONE for each that is not in the queue
pub record AreQueued (n : ℕ) (numbers queue : List ℕ) : Type 0 where
  pub count : length numbers ≡ n
  pub others : (v : ℕ) → v < n → Contains queue v ⊎ (slice_index numbers v ≡ NONE)
