-- What is noted, while labels fall and while they are wiped.
use Rattle.std.proofs.Common.{◌≡◌, ◌∙◌, sym, ℕ, ◌<◌, Bool, true, false, List, length, set, inl, inr}
use Rattle.std.proofs.Common.{subst, arith, refl}
use Rattle.std.specs.Prelude.{All, Contains, slice_index}
use Rattle.std.proofs.lemmas.List.{get_or-set_other, length-set}
use Rattle.std.proofs.lemmas.List.Elements.{All-contains}
use Rattle.std.proofs.lemmas.Bool.{cases_eq}
use Rattle.route_walks.specs.declared.graph.TheConstants.{INF}
use Rattle.relax_core.specs.State.{mark_of}
use Rattle.route_walks.specs.Label.{IsMet}
use Rattle.route_walks.specs.Operators.{seeds_from}
use Rattle.csr_graph.specs.Graph.{Graph}
use Rattle.label_words.specs.Paused.{Rest, IsPause}
use Rattle.near_labels.specs.Noted.{AreNoted, IsBlankAt}

-- a vertex that is blank stays so when another one is written
other-blank : (labels : List ℕ) (marks : List Bool) (v w d : ℕ) (mark : Bool) → (w ≡ v → ⊥)
    → IsBlankAt labels marks w → IsBlankAt (set labels v d) (set marks v mark) w
other-blank labels marks v w d mark other blank = (
  get_or-set_other labels v w d 0 other ∙ blank.0,
  get_or-set_other marks v w mark false other ∙ blank.1,
)

-- a vertex that is noted may have any label and mark
pub noted-write : (labels : List ℕ) (marks : List Bool) (noted : List ℕ) (v d : ℕ) (mark : Bool)
    → AreNoted labels marks noted → Contains noted v → AreNoted (set labels v d) (set marks v mark) noted
noted-write labels marks noted v d mark before within = record {
  count = length-set marks v mark ∙ before.count ∙ sym (length-set labels v d);
  within = λ k e lt. omega (arith, before.within k e lt, length-set labels v d);
  others = λ w lt.
      elim (cases_eq w v) [
        | inl same ↦ inl (subst (Contains noted) (sym same) within)
        | inr other ↦
            elim (before.others w (omega (arith, lt, length-set labels v d))) [
              | inl within' ↦ inl within'
              | inr blank ↦ inr (other-blank labels marks v w d mark other blank)
            ]
      ];
}

-- a vertex with a label is noted
pub noted-here : (labels : List ℕ) (marks : List Bool) (noted : List ℕ) (v : ℕ) → AreNoted labels marks noted
    → v < length labels → (slice_index labels v ≡ INF → ⊥) → Contains noted v
noted-here labels marks noted v before below some =
    elim (before.others v below) [
      | inl within ↦ within
      | inr blank ↦ absurd (some blank.0)
    ]

-- the source of a pause has label 0
pub source-label : (graph : Graph) (source : ℕ) (rest : Rest) → IsPause graph (seeds_from source) rest
    → slice_index rest.labels source ≡ 0
source-label graph source rest pause =
    omega (
      arith,
      All-contains (IsMet (slice_index rest.labels)) (seeds_from source) (record { vertex = source; start = 0 }) pause.met
          (0, omega arith, refl),
    )

-- what is true of each noted vertex if it is marked is true of each that is marked
pub noted-marked : (IsFar : ℕ → Type 0) (labels : List ℕ) (marks : List Bool) (noted : List ℕ)
    → AreNoted labels marks noted
    → All (λ v. mark_of marks v ≡ true → IsFar v) noted
    → (v : ℕ) → v < length marks → mark_of marks v ≡ true → IsFar v
noted-marked IsFar labels marks noted before far v below marked =
    elim (before.others v (omega (arith, below, before.count))) [
      | inl within ↦ All-contains (λ (w : ℕ). mark_of marks w ≡ true → IsFar w) noted v far within marked
      | inr blank ↦ absurd (cc (marked, blank.1))
    ]
