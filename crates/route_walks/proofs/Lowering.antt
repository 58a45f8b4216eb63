-- A label that falls to an attained number leaves the labels sound, and seeds met.
use Rattle.std.proofs.Common.{◌≡◌, ℕ, ◌+◌, ◌<◌, ◌≤◌, List, length, get_or, set, take, sum, slice_index}
use Rattle.std.proofs.Common.{Bool, false, cond, sym, subst, arith, inl, inr}
use Rattle.std.specs.List.{All}
use Rattle.std.proofs.lemmas.List.{get_or-set_same, get_or-set_other, length-set}
use Rattle.std.proofs.lemmas.List.Elements.{All-weaker, All-more}
use Rattle.std.proofs.lemmas.Bool.{cases_eq}
use Rattle.route_walks.specs.declared.graph.ArcRec.{ArcRec}
use Rattle.route_walks.specs.declared.graph.Seed.{Seed}
use Rattle.route_walks.specs.declared.graph.TheConstants.{INF}
use Rattle.route_walks.specs.Walk.{IsAttained}
use Rattle.route_walks.specs.Label.{IsMet, IsRelaxed, IsSound, AreCapped}

-- the labels of n vertices are sound, and meet some of the seeds
pub record AreLowered (n : ℕ) (arcs : List ArcRec) (seeds some : List Seed) (labels : List ℕ) : Type 0 where
  pub count : length labels ≡ n
  pub capped : AreCapped n (slice_index labels)
  pub sound : IsSound n arcs seeds (slice_index labels)
  pub met : All (IsMet (slice_index labels)) some

-- a round has gone along the first arcs: fell says if a label fell, and else they are relaxed
pub record IsRound (n : ℕ) (arcs : List ArcRec) (seeds : List Seed) (before labels : List ℕ) (count : ℕ) (fell : Bool)
    : Type 0 where
  pub lowered : AreLowered n arcs seeds seeds labels
  pub relaxed : fell ≡ false → All (IsRelaxed (slice_index labels)) (take count arcs)
  pub less : sum labels + cond fell 1 0 ≤ sum before

-- what holds of each label, and of a number at v, holds of each with that number at v
each-set : (P : ℕ → ℕ → Type 0) (labels : List ℕ) (v x : ℕ) → v < length labels
    → ((w : ℕ) → P w (get_or labels w 0)) → P v x
    → (w : ℕ) → P w (get_or (set labels v x) w 0)
each-set P labels v x below each here w =
    elim (cases_eq w v) [
      | inl same ↦
          subst (λ (y : ℕ). P y (get_or (set labels v x) y 0)) (sym same)
          (subst (P v) (sym (get_or-set_same labels v x 0 below)) here)
      | inr other ↦ subst (P w) (sym (get_or-set_other labels v w x 0 other)) (each w)
    ]

pub set-lowered : (n : ℕ) (arcs : List ArcRec) (seeds some : List Seed) (labels : List ℕ) (v x : ℕ)
    → AreLowered n arcs seeds some labels → v < n → x < get_or labels v 0 → IsAttained arcs seeds v x
    → AreLowered n arcs seeds some (set labels v x)
set-lowered n arcs seeds some labels v x before below less attained =
    let inside : v < length labels = omega (arith, before.count) in
    let falls = each-set (λ w d. d ≤ get_or labels w 0) labels v x inside (λ w. omega arith) (omega arith) in
    record {
      count = omega (arith, length-set labels v x, before.count);
      capped =
          each-set (λ w d. w < n → d ≤ INF) labels v x inside before.capped
          (λ _. omega (arith, less, before.capped v below));
      sound = each-set (λ w d. w < n → d < INF → IsAttained arcs seeds w d) labels v x inside before.sound
          (λ _ _. attained);
      met =
          All-weaker (IsMet (slice_index labels)) (IsMet (slice_index (set labels v x)))
          (λ seed was. omega (arith, falls seed.vertex, was)) some before.met;
    }

-- one seed more is met
pub meet-more : (n : ℕ) (arcs : List ArcRec) (seeds : List Seed) (i : ℕ) (zero : Seed) (labels : List ℕ)
    → i < length seeds
    → AreLowered n arcs seeds (take i seeds) labels → IsMet (slice_index labels) (get_or seeds i zero)
    → AreLowered n arcs seeds (take (i + 1) seeds) labels
meet-more n arcs seeds i zero labels here before meets = record {
  count = before.count;
  capped = before.capped;
  sound = before.sound;
  met = All-more (IsMet (slice_index labels)) seeds i zero here before.met meets;
}
