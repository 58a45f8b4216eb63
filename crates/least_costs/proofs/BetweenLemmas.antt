-- The arcs between two vertices, and those that are left without pairs.
use Rattle.std.proofs.Common.{◌≡◌, ℕ, cond, List, [], ◌∷◌, ◌++◌, length, refl, sym, ap, arith, inl, inr}
use Rattle.std.proofs.lemmas.List.{append-nil}
use Rattle.std.specs.Prelude.{◌==◌}
use Rattle.std.proofs.lemmas.Bool.Decides.{eqb_tells}
use Rattle.csr_graph.specs.Changes.{without}
use Rattle.csr_graph.specs.Graph.{arc_to}
use Rattle.csr_graph.specs.declared.target.Target.{Target}
use Rattle.route_walks.specs.declared.graph.ArcRec.{ArcRec}

-- without pairs no arc is removed
pub none_removed : (pairs : List (ℕ × ℕ)) (arcs : List ArcRec) → length pairs ≡ 0 → arcs ≡ without pairs arcs
none_removed [] [] none = refl
none_removed [] (arc ∷ arcs) none = ap (λ l. arc ∷ l) (none_removed [] arcs refl)
none_removed (pair ∷ pairs) arcs none = absurd (omega (arith, none))

-- a target is taken if it is the head that is looked for
pub taken_one : (front : List ArcRec) (tail head : ℕ) (target : Target) → target.head ≡ head
    → front ++ record { tail = tail; head = head; weight = target.weight } ∷ []
    ≡ front ++ cond (target.head == head) (arc_to tail target ∷ []) []
taken_one front tail head target same =
    elim (eqb_tells target.head head) [
      | inl is ↦
          rw is.0
          (ap (λ (h : ℕ). front ++ record { tail = tail; head = h; weight = target.weight } ∷ []) (sym same))
      | inr other ↦ absurd (other.1 same)
    ]

pub passed_one : (front : List ArcRec) (tail head : ℕ) (target : Target) → (target.head ≡ head → ⊥)
    → front ≡ front ++ cond (target.head == head) (arc_to tail target ∷ []) []
passed_one front tail head target other =
    elim (eqb_tells target.head head) [
      | inl is ↦ absurd (other is.1)
      | inr none ↦ rw none.0 (sym (append-nil front))
    ]
