-- Looking a metric up, before and after one is put last.
use Rattle.std.proofs.Common.{◌≡◌, ◌≢◌, sym, subst, ℕ, List, [], ◌∷◌, ◌++◌, inl, inr}
use Rattle.std.proofs.Common.{Option, Some, None, length, nat_eq}
use Rattle.std.specs.Prelude.{MatchOption, IfSome, IfNone, cond}
use Rattle.std.proofs.lemmas.Bool.Decides.{eqb_tells}
use Rattle.obim_bags.proofs.Listed.{at_last, at_snoc}
use Rattle.obim_bags.proofs.Prefixes.{prefix_get, prefix_longer}
use Rattle.obim_bags.specs.Indexes.{IsAlone, Lacks}

-- what an index gives at a metric
abbrev pub Gives : List ℕ → ℕ → Option ℕ → Type 0
Gives metrics metric found = MatchOption found (Lacks metric metrics) (λ place. IsAlone metric place metrics)

pub at_place : (metrics : List ℕ) (metric : ℕ) (found : Option ℕ) → Gives metrics metric found
    → IfSome found (λ place. IsAlone metric place metrics)
at_place metrics metric None gives = tt
at_place metrics metric (Some place) gives = gives

pub at_none : (metrics : List ℕ) (metric : ℕ) (found : Option ℕ) → Gives metrics metric found
    → IfNone found (Lacks metric metrics)
at_none metrics metric None gives = gives
at_none metrics metric (Some place) gives = tt

-- a metric that isn't the new one is where it was
pub gives_other : (metrics : List ℕ) (new metric : ℕ) → metric ≢ new → (found : Option ℕ) → Gives metrics metric found
    → Gives (metrics ++ new ∷ []) metric found
gives_other metrics new metric apart None lacks =
    λ place at. elim (at_snoc metrics new metric place at) [
      | inl before ↦ lacks place before
      | inr last ↦ apart (sym last.1)
    ]
gives_other metrics new metric apart (Some place) alone = (
  prefix_get metrics (metrics ++ new ∷ []) place metric (prefix_longer metrics (new ∷ [])) alone.0,
  λ other at. elim (at_snoc metrics new metric other at) [
    | inl before ↦ alone.1 other before
    | inr last ↦ absurd (apart (sym last.1))
  ],
)

-- the new metric is last and nowhere else
pub gives_last : (metrics : List ℕ) (new : ℕ) → Lacks new metrics → IsAlone new (length metrics) (metrics ++ new ∷ [])
gives_last metrics new lacks = (
  at_last metrics new,
  λ other at. elim (at_snoc metrics new new other at) [
    | inl before ↦ absurd (lacks other before)
    | inr last ↦ last.0
  ],
)

-- the index after a new metric is put last and its place is put into the map
pub gives_next : (metrics : List ℕ) (new metric : ℕ) (before after : Option ℕ) → Lacks new metrics
    → after ≡ cond (nat_eq new metric) (Some (length metrics)) before
    → Gives metrics metric before
    → Gives (metrics ++ new ∷ []) metric after
gives_next metrics new metric before after lacks is gives =
    elim (eqb_tells new metric) [
      | inl same ↦
          subst (Gives (metrics ++ new ∷ []) metric)
          (sym (subst (λ b. after ≡ cond b (Some (length metrics)) before) same.0 is))
          (subst (λ m. IsAlone m (length metrics) (metrics ++ new ∷ [])) same.1 (gives_last metrics new lacks))
      | inr other ↦
          subst (Gives (metrics ++ new ∷ []) metric)
          (sym (subst (λ b. after ≡ cond b (Some (length metrics)) before) other.0 is))
          (gives_other metrics new metric (λ e. other.1 (sym e)) before gives)
    ]
