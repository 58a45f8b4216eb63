-- The rule of the words: between any two steps they hold a lawful core with the views of all seats, and no label is
-- above what any seat knows.
use Rattle.std.specs.Prelude.{◌≡◌, ◌≢◌, ◌==◌, ℕ, ◌<◌, ◌≤◌, Bool, List, ◌++◌, length, map, slice_index, All}
use mathlib.Core.Option.{some}
use lib.ListN.{get_elem?}
use Rattle.route_walks.specs.declared.graph.Seed.{Seed}
use Rattle.route_walks.specs.Operators.{seeds_of}
use Rattle.csr_graph.specs.Graph.{Graph}
use Rattle.relax_core.specs.declared.views.View.{View}
use Rattle.relax_core.specs.State.{State, IsLawful, mark_of as is_marked}
use Rattle.label_words.specs.declared.known.Known.{Known}
use Rattle.label_words.specs.Layout.{word_count, total_of, label_of, mark_of}

abbrev pub views_of : List Known → List View
views_of seats = map (λ (seat : Known). seat.view) seats

-- the words hold a state of n vertices: its total, and the label and the mark of each vertex
pub record IsLaid (state : State) (n : ℕ) (words : List ℕ) : Type 0 where
  pub count : length words ≡ word_count n
  pub total : total_of words ≡ state.total
  pub labels : (v : ℕ) → v < n → label_of words v ≡ slice_index state.labels v
  pub marks : (v : ℕ) → v < n → mark_of words v ≡ is_marked state.marks v

-- a seat knows the graph and the seeds, and no label is above what it knows
pub record Knows (graph : Graph) (seeds : List Seed) (label : ℕ → ℕ) (seat : Known) : Type 0 where
  pub graph_is : seat.graph ≡ graph
  pub seeds_are : seat.seeds ≡ seeds
  pub above : All (λ entry. label entry.0 ≤ entry.1) seat.labels

-- and so does each seat that isn't spent
abbrev pub AllKnow : Graph → List Seed → (ℕ → ℕ) → List Known → Type 0
AllKnow graph seeds label seats =
    (s : ℕ) (seat : Known) → get_elem? seats s ≡ some seat → seat.view.share ≢ 0 → Knows graph seeds label seat

-- the seeds of the words: those that a run begins with, and those of the labels that it goes on from
abbrev pub seeds_told : List Seed → List ℕ → List Seed
seeds_told seeds labels = seeds ++ seeds_of labels

-- the rule
pub record AreLawful (graph : Graph) (seeds : List Seed) (words : List ℕ) (seats : List Known) : Type 0 where
  pub state : State
  pub lawful : IsLawful graph seeds state
  pub laid : IsLaid state graph.n words
  pub views_are : state.views ≡ views_of seats
  pub knows : AllKnow graph seeds (label_of words) seats

-- At one moment words and seats were lawful, this seat was one of them, and the flag said whether the total was 0.
pub record SeesLawful (zero : Bool) (seat : Known) : Type 0 where
  pub words : List ℕ
  pub seats : List Known
  pub lawful : AreLawful seat.graph seat.seeds words seats
  pub place : ℕ
  pub here : get_elem? seats place ≡ some seat
  pub total : zero ≡ (total_of words == 0)
