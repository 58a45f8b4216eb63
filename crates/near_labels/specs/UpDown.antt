-- A walk over one graph and a walk over another, each from its own end, that meet.
use Rattle.std.specs.Prelude.{ℕ, ◌≡◌, ◌+◌, ◌<◌, ◌≤◌, List, slice_index}
use Rattle.route_walks.specs.declared.graph.ArcRec.{ArcRec}
use Rattle.route_walks.specs.declared.graph.TheConstants.{INF}
use Rattle.route_walks.specs.Walk.{IsWalk, cost}
use Rattle.route_walks.specs.Operators.{seeds_from}
use Rattle.csr_graph.specs.Graph.{Graph, IsInRows}
use Rattle.label_words.specs.Paused.{Rest, IsPause, AreUnmarkedBelow}
use Rattle.near_labels.specs.Meeting.{IsLeastMeeting}

-- some walk from u to v costs at most this
pub record HasWalk (arcs : List ArcRec) (u v most : ℕ) : Type 0 where
  pub walk : List ArcRec
  pub walks : IsWalk arcs u walk v
  pub cheap : cost walk ≤ most

-- a walk from u over ups and one from v over downs end at the same vertex, and cost at most this together
pub record HasUpDown (ups downs : List ArcRec) (u v most : ℕ) : Type 0 where
  pub top : ℕ
  pub rise : ℕ
  pub fall : ℕ
  pub up : HasWalk ups u top rise
  pub down : HasWalk downs v top fall
  pub cheap : rise + fall ≤ most

-- d is the least that two such walks cost together, or INF where none cost less
pub record IsLeastUpDown (ups downs : List ArcRec) (u v d : ℕ) : Type 0 where
  pub capped : d ≤ INF
  pub met : d < INF → HasUpDown ups downs u v d
  pub least : (c : ℕ) → HasUpDown ups downs u v c → d ≤ c

-- the least sum of two pauses where they meet is that least cost, if on neither side a lower label is marked
abbrev pub MeetingAboveIsLeast : Type 0
MeetingAboveIsLeast =
    (up down : Graph) (source target low high d : ℕ) (forward backward : Rest)
    → IsInRows up → IsInRows down
    → down.n ≡ up.n
    → source < up.n → target < up.n
    → IsPause up (seeds_from source) forward
    → IsPause down (seeds_from target) backward
    → AreUnmarkedBelow low forward
    → AreUnmarkedBelow high backward
    → IsLeastMeeting up.n (slice_index forward.labels) (slice_index backward.labels) d
    → d ≤ low → d ≤ high
    → IsLeastUpDown up.arcs down.arcs source target d
