-- The block of a source within a bound, as a list of the vertices that have lines.
use Rattle.std.specs.Prelude.{◌≡◌, ◌<◌, ℕ, ◌++◌, Bool, true, false, List, [], Option, Some, None, length, map, slice_index_or, ⊤}
use Rattle.std.specs.declared.vec.Vec.{Vec}
use Rattle.std.specs.declared.alloc.Global.{Global}
use Rattle.walk_report.specs.Told.{walks_in}
use Rattle.near_labels.specs.Found.{AreWalksFound}
use Rattle.near_labels.specs.Noted.{AreThoseWithin}
use Rattle.near_labels.specs.declared.walks.WalksFound.{WalksFound}
use Rattle.route_walks.specs.Operators.{seeds_from}
use Rattle.least_costs.specs.Network.{NetworkSeen}
use Rattle.least_costs.specs.declared.start.Start.{Start}
use Rattle.least_costs.specs.declared.start.Start.TheVariants as start
use Rattle.answer_lines.specs.Lines.{label_text}
use Rattle.job_answer.specs.declared.question.asked.Lines.{Lines}
use Rattle.job_answer.specs.declared.question.asked.Lines.TheVariants as lines
use Rattle.job_answer.specs.declared.output.near_block.NearBlock.{NearBlock}
use Rattle.job_answer.specs.NearPairs.{walk_part}

-- the vertices of a list
abbrev pub vertices_of : List (ℕ × ℕ) → List ℕ
vertices_of found = map (λ entry. entry.0) found

-- there are walks to the vertices of a list if they are asked for, and only then
abbrev pub AreWalksAsked : Bool → NetworkSeen → ℕ → List (ℕ × ℕ) → Option WalksFound → Type 0
AreWalksAsked true net source found (Some walks) = AreWalksFound net.n net.arcs source (vertices_of found) walks
AreWalksAsked true net source found None = ⊥
AreWalksAsked false net source found (Some walks) = ⊥
AreWalksAsked false net source found None = ⊤

-- a list for the block of a source by lines within a bound: the vertices that cost at most the bound, each with its label,
-- and the walks there if the lines have walks
pub record IsNearBlock (by : Lines) (from : Start) (net : NetworkSeen) (near : NearBlock) : Type 0 where
  pub bound : ℕ
  pub walks : Bool
  pub lines_are : by ≡ lines.Within walks bound
  pub start_is : from ≡ start.At near.source
  pub within : AreThoseWithin bound net.n net.arcs (seeds_from near.source) near.found.items
  pub walked : AreWalksAsked walks net near.source near.found.items near.walks

-- the text of each entry is its line and that of the walk at its place
abbrev pub AreTextsOf : (ℕ → ℕ → List ℕ) → List (ℕ × ℕ) → List (Vec ℕ Global) → Type 0
AreTextsOf text found walks =
    (k : ℕ) → k < length found
    → text (slice_index_or found k (0, 0)).0 (slice_index_or found k (0, 0)).1
    ≡ label_text (slice_index_or found k (0, 0)).0 (slice_index_or found k (0, 0)).1
    ++ walk_part (slice_index_or found k (0, 0)).1 (slice_index_or (walks_in walks) k [])
