-- What a search keeps of the vertices that it has come to. All others are blank.
use Rattle.std.specs.Prelude.{◌≡◌, ◌≢◌, ℕ, ◌+◌, ◌<◌, ◌≤◌, ◌⊎◌, Bool, false, List, All, Contains, length, min, slice_index, slice_index_or}
use Rattle.route_walks.specs.declared.graph.ArcRec.{ArcRec}
use Rattle.route_walks.specs.declared.graph.Seed.{Seed}
use Rattle.route_walks.specs.declared.graph.TheConstants.{INF}
use Rattle.route_walks.specs.Label.{IsLeast}
use Rattle.route_walks.specs.Limit.{IsExactWithin}
use Rattle.relax_core.specs.State.{mark_of}
use Rattle.label_words.specs.Paused.{Rest}

-- labels and marks, as a pause has them
abbrev pub rest_of : List ℕ → List Bool → Rest
rest_of labels marks = record { labels = labels; marks = marks }

-- v is blank: its label is INF, and it isn't marked
abbrev pub IsBlankAt : List ℕ → List Bool → ℕ → Type 0
IsBlankAt labels marks v = (slice_index labels v ≡ INF) × (mark_of marks v ≡ false)

-- each vertex is blank
pub record IsBlank (labels : List ℕ) (marks : List Bool) : Type 0 where
  pub count : length marks ≡ length labels
  pub blank : (v : ℕ) → v < length labels → IsBlankAt labels marks v

-- each vertex is noted, or blank
pub record AreNoted (labels : List ℕ) (marks : List Bool) (noted : List ℕ) : Type 0 where
  pub count : length marks ≡ length labels
  pub within : All (λ v. v < length labels) noted
  pub others : (v : ℕ) → v < length labels → Contains noted v ⊎ IsBlankAt labels marks v

-- the labels are the least ones of these vertices, in their order
pub record AreLeastOf (arcs : List ArcRec) (seeds : List Seed) (vertices labels : List ℕ) : Type 0 where
  pub count : length labels ≡ length vertices
  pub least : (k : ℕ) → k < length vertices → IsLeast arcs seeds (slice_index vertices k) (slice_index labels k)

-- labels are exact within a bound: those within it are least, and no other vertex has a least label within it
abbrev pub AreExactWithin : ℕ → ℕ → List ArcRec → List Seed → List ℕ → Type 0
AreExactWithin bound n arcs seeds labels =
    (v : ℕ) → v < n → IsExactWithin bound arcs seeds v (slice_index labels v)

-- the vertex at a place rises with the place
abbrev pub DoRise : List (ℕ × ℕ) → Type 0
DoRise found =
    (k : ℕ) → k + 1 < length found → (slice_index_or found k (0, 0)).0 < (slice_index_or found (k + 1) (0, 0)).0

-- they are the vertices whose least labels are within a bound, in rising order, each with its label
pub record AreThoseWithin (bound n : ℕ) (arcs : List ArcRec) (seeds : List Seed) (found : List (ℕ × ℕ)) : Type 0 where
  pub each : All (λ entry. (entry.0 < n) × (entry.1 ≤ bound) × IsLeast arcs seeds entry.0 entry.1) found
  pub all : (v d : ℕ) → v < n → IsLeast arcs seeds v d → d ≤ bound → Contains found (v, d)
  pub rise : DoRise found

-- of the first vertices that are noted those are listed whose labels are within the bound, in rising order
pub record AreListed (labels noted : List ℕ) (bound count : ℕ) (found : List (ℕ × ℕ)) : Type 0 where
  pub each :
      All (λ entry. (entry.0 < length labels) × (entry.1 ≤ bound) × (slice_index labels entry.0 ≡ entry.1)) found
  pub all : (k : ℕ) → k < count → slice_index labels (slice_index noted k) ≤ bound
      → Contains found (slice_index noted k, slice_index labels (slice_index noted k))
  pub rise : DoRise found

-- each vertex but one may have lost its label, if that made the limit with its label on the other side, which counts as
-- low at most; the other labels are as they were
abbrev pub AreDropped : ℕ → ℕ → ℕ → List ℕ → List ℕ → List ℕ → Type 0
AreDropped but limit low other old new =
    (v : ℕ) → (slice_index new v ≡ slice_index old v)
    ⊎ ((limit ≤ slice_index old v + min (slice_index other v) low) × (slice_index new v ≡ INF) × (v ≢ but))
