-- Loops over a row that give a value to heads.
use Rattle.std.proofs.Common.{◌≡◌, ℕ, ◌+◌, ◌<◌, ◌≤◌, List, length, slice_index, set, get_or, take, take_all}
use Rattle.std.proofs.Common.{sym, subst, inl, inr}
use Rattle.std.specs.List.{All, Contains}
use Rattle.std.proofs.lemmas.Bool.{cases_eq}
use Rattle.std.proofs.lemmas.List.{get_or-set_other, get_or-set_same}
use Rattle.std.proofs.lemmas.List.Elements.{All-more, All-weaker}
use Rattle.route_walks.specs.declared.graph.ArcRec.{ArcRec}
use Rattle.csr_graph.specs.declared.target.Target.{Target}
use Rattle.csr_graph.specs.Graph.{arc_to, targets_of}
use Rattle.csr_graph.proofs.Facts.{no_target, row_all}

-- an arc that has P leads to a vertex whose value has Q
abbrev pub IsFilled : (ArcRec → Type 0) → (ℕ → Type 0) → List ℕ → ArcRec → Type 0
IsFilled P Q values arc = P arc → Q (slice_index values arc.head)

-- so do the arcs from u to some targets
abbrev pub AreFilled : (ArcRec → Type 0) → (ℕ → Type 0) → List ℕ → ℕ → List Target → Type 0
AreFilled P Q values u targets = All (λ target. IsFilled P Q values (arc_to u target)) targets

module _ (P : ArcRec → Type 0) (Q : ℕ → Type 0) (values : List ℕ) (u : ℕ) (row : List Target) (k : ℕ) where
  -- the next target needs no value
  pub filled-pass : k < length row → AreFilled P Q values u (take k row)
      → IsFilled P Q values (arc_to u (get_or row k no_target))
      → AreFilled P Q values u (take (k + 1) row)
  filled-pass lt = All-more (λ target. IsFilled P Q values (arc_to u target)) row k no_target lt

  -- the next target gets a value
  pub filled-put : (x : ℕ) → k < length row → (get_or row k no_target).head < length values → Q x
      → AreFilled P Q values u (take k row)
      → AreFilled P Q (set values (get_or row k no_target).head x) u (take (k + 1) row)
  filled-put x lt inside some filled =
      let v = (get_or row k no_target).head in
      let Filled = λ (target : Target). IsFilled P Q (set values v x) (arc_to u target) in
      let here : Q (slice_index (set values v x) v) = subst Q (sym (get_or-set_same values v x 0 inside)) some in
      let kept : (w : ℕ) → Q (slice_index values w) → Q (slice_index (set values v x) w) =
      λ w old.
      elim (cases_eq w v) [
        | inl same ↦ subst (λ (y : ℕ). Q (slice_index (set values v x) y)) (sym same) here
        | inr other ↦ subst Q (sym (get_or-set_other values v w x 0 other)) old
      ] in
      All-more Filled row k no_target lt
      (All-weaker (λ target. IsFilled P Q values (arc_to u target)) Filled (λ target old p. kept target.head (old p))
      (take k row) filled)
      (λ p. here)

  -- at the end of the row all arcs from u are passed
  pub filled-all : (arcs : List ArcRec) → row ≡ targets_of arcs u → length row ≤ k → AreFilled P Q values u (take k row)
      → (arc : ArcRec) → Contains arcs arc → arc.tail ≡ u → IsFilled P Q values arc
  filled-all arcs is done filled = row_all (IsFilled P Q values) arcs u (rw (take_all k row done, is) at filled)
