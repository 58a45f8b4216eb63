-- When a core is lawful. Labels and marks are read as functions from the vertex.
use Rattle.std.specs.Prelude.{◌≡◌, ℕ, zero, suc, ◌+◌, ◌⊎◌, Bool, true, false}
use Rattle.std.specs.Prelude.{if◌then◌else◌, List, Some, slice_get, sum_by, All, Any}
use Rattle.route_walks.specs.declared.graph.ArcRec.{ArcRec}
use Rattle.route_walks.specs.declared.graph.Seed.{Seed}
use Rattle.route_walks.specs.Label.{IsMet, IsRelaxed, IsSound}
use Rattle.csr_graph.specs.Graph.{Graph}
use Rattle.relax_core.specs.declared.views.Hand.TheVariants.{Idle}
use Rattle.relax_core.specs.declared.views.View.{View}
use Rattle.relax_core.specs.declared.views.TheConstants.{SHARES}
use Rattle.relax_core.specs.Views.{HoldsArc, IsHand, HasCredits}

-- the arc at place k is covered: it is relaxed, or its tail is marked, or some view holds it
abbrev pub IsCovered : (ℕ → ℕ) → (ℕ → Bool) → List View → ℕ → ArcRec → Type 0
IsCovered label mark views k arc =
    IsRelaxed label arc
    ⊎ ((mark arc.tail ≡ true) ⊎ Any (λ view. HoldsArc label k arc view.hand) views)

-- every arc is covered
abbrev pub AreCovered : Graph → (ℕ → ℕ) → (ℕ → Bool) → List View → Type 0
AreCovered graph label mark views =
    (k : ℕ) (arc : ArcRec)
    → slice_get graph.arcs k ≡ Some arc
    → IsCovered label mark views k arc

-- the cover part of a lawful core; it asks nothing of total, credits or saw
pub record Covers (graph : Graph) (seeds : List Seed)
    (label : ℕ → ℕ) (mark : ℕ → Bool) (views : List View) : Type 0 where
  pub sound : IsSound graph.n graph.arcs seeds label
  pub met : All (IsMet label) seeds
  pub covered : AreCovered graph label mark views
  pub hands : All (λ view. IsHand graph seeds label view.hand) views
  pub shares : sum_by (λ view. view.share) views ≡ SHARES
  pub spent : All (λ view. view.share ≡ 0 → view.hand ≡ Idle) views

-- how many of n vertices are marked
abbrev pub marks_below : (ℕ → Bool) → ℕ → ℕ
marks_below mark zero = 0
marks_below mark (suc n) = marks_below mark n + (if mark n then 1 else 0)

-- the account part of a lawful core: the total is the number of marks and all credits in hands
pub record Account (n : ℕ) (mark : ℕ → Bool) (total : ℕ) (views : List View) : Type 0 where
  pub balance : total ≡ marks_below mark n + sum_by (λ view. view.credits) views
  pub credits : All (λ view. HasCredits view.hand view.credits) views
  pub saw : All (λ view. view.saw ≡ true → total ≡ 0) views
  pub spent : All (λ view. view.share ≡ 0 → view.saw ≡ false) views
