-- What the words leave when they are closed.
use Rattle.std.specs.Prelude.{◌≡◌, ℕ, ◌<◌, ◌≤◌, Bool, true, false, List, length, slice_index, All}
use Rattle.route_walks.specs.declared.graph.TheConstants.{INF}
use Rattle.route_walks.specs.declared.graph.Seed.{Seed}
use Rattle.route_walks.specs.Label.{AreLeast, AreLeastLabels}
use Rattle.csr_graph.specs.Graph.{Graph}
use Rattle.label_words.specs.Layout.{label_of, mark_of as marks_of}
use Rattle.relax_core.specs.State.{mark_of}
use Rattle.label_words.specs.declared.known.Known.{Known}
use Rattle.label_words.specs.declared.closed.Closed.{Closed}
use Rattle.label_words.specs.declared.closed.Closed.TheVariants.{Settled, Paused}
use Rattle.label_words.specs.Paused.{IsPause}

-- what the words are closed to: least labels exactly where the seat saw 0, else a pause
abbrev pub IsClosed : Known → Closed → Type 0
IsClosed known (Settled labels) =
    (known.view.saw ≡ true) × (length labels.items ≡ known.graph.n)
    × AreLeast known.graph.n known.graph.arcs known.seeds (slice_index labels.items)
IsClosed known (Paused rest) = (known.view.saw ≡ false) × IsPause known.graph known.seeds rest

-- the labels that the words are closed to
abbrev pub closed_labels : Closed → List ℕ
closed_labels (Settled labels) = labels.items
closed_labels (Paused rest) = rest.labels

-- no label is above what the seat knew of it
abbrev pub IsBelowKnown : Known → Closed → Type 0
IsBelowKnown known closed = All (λ entry. slice_index (closed_labels closed) entry.0 ≤ entry.1) known.labels

-- a run over a graph and seeds ended with their least labels, or with a pause of them
abbrev pub IsEnd : Graph → List Seed → Closed → Type 0
IsEnd graph seeds (Settled labels) = AreLeastLabels graph.n graph.arcs seeds labels.items
IsEnd graph seeds (Paused rest) = IsPause graph seeds rest

-- it ended with least labels
abbrev pub HasSettled : Closed → Type 0
HasSettled (Settled labels) = Unit {0}
HasSettled (Paused rest) = ⊥

-- no label is above the old one
abbrev pub AreNoHigher : List ℕ → List ℕ → Type 0
AreNoHigher new old = (v : ℕ) → v < length old → slice_index new v ≤ slice_index old v

-- ---- what the loops that read the words leave: no promise to callers

-- d is the label of v as it stands in the words, where no number is above INF
abbrev pub IsLabelOf : List ℕ → ℕ → ℕ → Type 0
IsLabelOf words v d = (d ≡ label_of words v) × (d ≤ INF)

-- labels of the first vertices, as they stand in the words
abbrev pub AreLabelsOf : List ℕ → List ℕ → Type 0
AreLabelsOf words labels = (v : ℕ) → v < length labels → IsLabelOf words v (slice_index labels v)

-- marks of the first vertices, as they stand in the words
abbrev pub AreMarksOf : List ℕ → List Bool → Type 0
AreMarksOf words marks = (v : ℕ) → v < length marks → mark_of marks v ≡ marks_of words v
