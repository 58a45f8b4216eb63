-- Lists in which no metric stands twice.
use Rattle.std.proofs.Common.{◌∙◌, ap, sym, ℕ, List, [], ◌∷◌, ◌++◌, Some, inl, inr, arith}
use mathlib.Core.List.{IsPrefix}
use Rattle.obim_bags.specs.Indexes.{AreDistinct, Lacks}
use Rattle.obim_bags.proofs.Listed.{at_snoc}
use Rattle.obim_bags.proofs.Prefixes.{prefix_get}

pub distinct_snoc : (metrics : List ℕ) (new : ℕ) → AreDistinct metrics → Lacks new metrics
    → AreDistinct (metrics ++ new ∷ [])
distinct_snoc metrics new was lacks place other metric at at' =
    elim (at_snoc metrics new metric place at) [
      | inl old ↦ elim (at_snoc metrics new metric other at') [
        | inl old' ↦ was place other metric old old'
        | inr last' ↦ absurd (lacks place (old ∙ ap Some (sym last'.1)))
      ]
      | inr last ↦ elim (at_snoc metrics new metric other at') [
        | inl old' ↦ absurd (lacks other (old' ∙ ap Some (sym last.1)))
        | inr last' ↦ omega (arith, last.0, last'.0)
      ]
    ]

pub distinct_beginning : (known metrics : List ℕ) → AreDistinct metrics → IsPrefix known metrics → AreDistinct known
distinct_beginning known metrics distinct begins place other metric at at' =
    distinct place other metric (prefix_get known metrics place metric begins at)
    (prefix_get known metrics other metric begins at')
