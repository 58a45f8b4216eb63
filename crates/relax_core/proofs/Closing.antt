-- What a lawful core says of its total, and of a total of 0.
use Rattle.std.proofs.Common.{◌≡◌, ◌∙◌, sym, refl, ℕ, zero, suc, ◌*◌, ◌<◌, ◌≤◌, Bool}
use Rattle.std.proofs.Common.{false, List, [], ◌∷◌, inl, inr, get_or, arith}
use Rattle.std.specs.Prelude.{All, sum_by}
use Rattle.std.proofs.lemmas.List.Elements.{All-head, All-tail}
use Rattle.std.proofs.lemmas.List.Sums.{sum_by-cons, get_or-le-sum_by}
use Rattle.std.proofs.lemmas.Bool.{cases_eq, cases_Bool}
use Rattle.std.proofs.lemmas.Option.{slice_get-get_or}
use Rattle.route_walks.proofs.Facts.{settled_and_sound_are_least}
use Rattle.relax_core.specs.declared.views.Hand.{Hand}
use Rattle.relax_core.specs.declared.views.Hand.TheVariants.{Idle, Kept}
use Rattle.relax_core.specs.declared.views.View.{View}
use Rattle.relax_core.specs.Views.{HasCredits}
use Rattle.relax_core.specs.Lawful.{marks_below}
use Rattle.relax_core.specs.Laws.{TotalIsBounded, QuietIsSettled, ZeroIsLeast}
use Rattle.relax_core.proofs.Accounts.{marks_le}

-- no hand has more than 255 credits
most_credits : (hand : Hand) (credits : ℕ) → HasCredits hand credits → credits ≤ 255
most_credits Idle credits h = omega arith
most_credits Kept credits h = omega (arith, h.1)
most_credits other credits h = h.1

-- a hand with no credit is idle
idle_without : (hand : Hand) (credits : ℕ) → HasCredits hand credits → credits ≡ 0 → hand ≡ Idle
idle_without Idle credits h none = refl
idle_without other credits h none = absurd (omega arith)

-- a view has at most 255 credits for each share
few_credits : (view : View)
    → HasCredits view.hand view.credits → (view.share ≡ 0 → view.hand ≡ Idle)
    → view.credits ≤ 255 * view.share
few_credits view credits spent =
    elim (cases_eq view.share 0) [
      | inl none ↦ let nothing = rw (spent none) at credits in omega arith
      | inr some ↦ omega (arith, most_credits view.hand view.credits credits)
    ]

-- what is at most 255 times as much in each view is so in all
sum_at_most : (f g : View → ℕ) (views : List View)
    → All (λ view. f view ≤ 255 * g view) views
    → sum_by f views ≤ 255 * sum_by g views
sum_at_most f g [] each = omega arith
sum_at_most f g (view ∷ views) each =
    let Few = λ (v : View). f v ≤ 255 * g v in
    let here = All-head Few view views each in
    let rest = sum_at_most f g views (All-tail Few view views each) in
    omega (arith, sum_by-cons f view views, sum_by-cons g view views)

pub total_is_bounded : TotalIsBounded
total_is_bounded graph seeds label mark total views covers account =
    let credits =
    sum_at_most (λ (view : View). view.credits) (λ (view : View). view.share) views
    (λ k d lt. few_credits (get_or views k d) (account.credits k d lt) (covers.spent k d lt)) in
    omega (arith, credits, account.balance, covers.shares, marks_le mark graph.n)

pub quiet_is_settled : QuietIsSettled
quiet_is_settled graph seeds label mark views rows covers unmarked idle = record {
  met = covers.met;
  relaxed = λ k d lt.
      elim (covers.covered k (get_or graph.arcs k d) (slice_get-get_or graph.arcs k d lt)) [
        | inl relaxed ↦ relaxed
        | inr (inl marked) ↦
            let both = sym marked ∙ unmarked (get_or graph.arcs k d).tail (rows.ends k d lt).0 in
            cc
        | inr (inr held) ↦
            absurd (rw (rw held.3 at (idle held.0 held.1 held.2)) at held.4)
      ];
}

-- where no mark counts no vertex is marked
none_marked : (mark : ℕ → Bool) (n : ℕ) → marks_below mark n ≡ 0 → (u : ℕ) → u < n → mark u ≡ false
none_marked mark zero none u lt = absurd (omega arith)
none_marked mark (suc n) none u lt =
    elim (cases_eq u n) [
      | inr other ↦ none_marked mark n (omega arith) u (omega arith)
      | inl same ↦
          elim (cases_Bool (mark n)) [
            | inl set' ↦ absurd (omega (arith, rw set' at none))
            | inr unset ↦ rw same unset
          ]
    ]

pub zero_is_least : ZeroIsLeast
zero_is_least graph seeds label mark views rows capped covers account =
    let marks : marks_below mark graph.n ≡ 0 = omega (arith, account.balance) in
    settled_and_sound_are_least graph.n graph.arcs seeds label capped
    (quiet_is_settled graph seeds label mark views rows covers (none_marked mark graph.n marks)
    (λ k d lt. idle_without (get_or views k d).hand (get_or views k d).credits (account.credits k d lt)
    (omega (arith, account.balance, get_or-le-sum_by (λ (view : View). view.credits) views k d lt))))
    covers.sound
