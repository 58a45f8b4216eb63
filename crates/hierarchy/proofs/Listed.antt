-- One target more.
use Rattle.std.proofs.Common.{◌≡◌, ◌∙◌, ℕ, ◌+◌, ◌<◌, List, [], ◌∷◌, ◌++◌, ap, arith, inl, inr, length, slice_index, subst, sym}
use Rattle.std.proofs.lemmas.List.{get_or_append_left, get_or_push, length_push}
use Rattle.std.proofs.lemmas.Bool.{cases_lt}
use Rattle.route_walks.specs.declared.graph.ArcRec.{ArcRec}
use Rattle.route_walks.specs.declared.graph.Seed.{Seed}
use Rattle.route_walks.specs.Label.{IsLeast}
use Rattle.near_labels.specs.Noted.{AreLeastOf}

pub least-more : (arcs : List ArcRec) (seeds : List Seed) (vertices labels : List ℕ) (v label : ℕ)
    → AreLeastOf arcs seeds vertices labels → IsLeast arcs seeds v label
    → AreLeastOf arcs seeds (vertices ++ v ∷ []) (labels ++ label ∷ [])
least-more arcs seeds vertices labels v label are is = record {
  count = length_push labels label ∙ ap (λ k. k + 1) are.count ∙ sym (length_push vertices v);
  least = λ k below.
      elim (cases_lt k (length vertices)) [
        | inl here ↦
            let there : k < length labels = omega (arith, here, are.count) in
            subst (λ (x : ℕ). IsLeast arcs seeds x (slice_index (labels ++ label ∷ []) k))
            (sym (get_or_append_left vertices (v ∷ []) 0 k here))
            (subst (IsLeast arcs seeds (slice_index vertices k))
            (sym (get_or_append_left labels (label ∷ []) 0 k there)) (are.least k here))
        | inr past ↦
            let last : length vertices ≡ k = omega (arith, below, length_push vertices v, past) in
            subst (λ (x : ℕ). IsLeast arcs seeds x (slice_index (labels ++ label ∷ []) k))
            (sym (get_or_push vertices v 0 k last))
            (subst (IsLeast arcs seeds v) (sym (get_or_push labels label 0 k (are.count ∙ last))) is)
      ];
}
