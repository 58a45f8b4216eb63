-- The laws of the account: the total stays the number of marks and all credits.
use Rattle.std.proofs.Common.{◌≡◌, ◌∙◌, sym, subst, refl, ℕ, zero, suc, ◌+◌, ◌-◌, ◌<◌, ◌≤◌, Bool}
use Rattle.std.proofs.Common.{true, false, cond, List, inl, inr, Some, set, arith}
use Rattle.std.specs.Prelude.{slice_get, ◌==◌}
use Rattle.std.proofs.lemmas.List.Elements.{All-set, All-push}
use Rattle.std.proofs.lemmas.List.Sums.{sum_by_push}
use Rattle.std.proofs.lemmas.Bool.{cases_eq, cases_Bool, eqb-true, eqb-false, or_cases}
use Rattle.relax_core.specs.declared.views.Hand.{Hand}
use Rattle.relax_core.specs.declared.views.Hand.TheVariants.{Idle, Kept}
use Rattle.relax_core.specs.declared.views.View.{View}
use Rattle.relax_core.specs.Views.{HasView, HasCredits, has_no_vertex, owed_of, idle_view, taken, opened}
use Rattle.relax_core.specs.Views.{went_along, raised, raised_by, marked, finished, kept, gave_back, looked}
use Rattle.relax_core.specs.Views.{kept_half, new_half, joined}
use Rattle.relax_core.specs.Lawful.{Account, marks_below}
use Rattle.relax_core.specs.Laws.{AgreeBut, TakingKeepsAccount, ReadingKeepsAccount, RelaxingKeepsAccount}
use Rattle.relax_core.specs.Laws.{RaisingKeepsAccount, RaisingByKeepsAccount, MarkingKeepsAccount}
use Rattle.relax_core.specs.Laws.{FinishingKeepsAccount, KeepingKeepsAccount, ReturningKeepsAccount}
use Rattle.relax_core.specs.Laws.{SeeingKeepsAccount, SplittingKeepsAccount, JoiningKeepsAccount}
use Rattle.relax_core.proofs.Seats.{all_at, sum_replaced, other_seat}

-- ---- the number of marks

-- marks of lower vertices alone count
pub marks_same : (mark mark' : ℕ → Bool) (n : ℕ)
    → ((x : ℕ) → x < n → mark' x ≡ mark x)
    → marks_below mark' n ≡ marks_below mark n
marks_same mark mark' zero same = refl
marks_same mark mark' (suc n) same =
    rw (same n (omega arith), marks_same mark mark' n (λ x lt. same x (omega arith)))

-- one mark changes the count by one mark
pub marks_but : (mark mark' : ℕ → Bool) (n u : ℕ) → u < n → AgreeBut u mark mark'
    → marks_below mark' n + cond {A = ℕ} (mark u) 1 0 ≡ marks_below mark n + cond {A = ℕ} (mark' u) 1 0
marks_but mark mark' zero u lt agree = absurd (omega arith)
marks_but mark mark' (suc n) u lt agree =
    elim (cases_eq n u) [
      | inl same ↦ rw (← same) (omega (arith, marks_same mark mark' n (λ x less. agree x (omega arith))))
      | inr other ↦ rw (agree n other) (omega (arith, marks_but mark mark' n u (omega arith) agree))
    ]

-- what a mark that is set takes, of two credits or more: one, unless it was set before
mark_takes : (was : Bool) (c : ℕ) → 2 ≤ c
    → (cond {A = ℕ} was c (c - 1) + 1 ≡ cond {A = ℕ} was 1 0 + c) × (cond {A = ℕ} was 1 0 ≤ 1)
    × (1 ≤ cond {A = ℕ} was c (c - 1)) × (cond {A = ℕ} was c (c - 1) ≤ c)
mark_takes true c two = (omega arith, omega arith, omega arith, omega arith)
mark_takes false c two = (omega arith, omega arith, omega arith, omega arith)

-- at most every vertex is marked
pub marks_le : (mark : ℕ → Bool) (n : ℕ) → marks_below mark n ≤ n
marks_le mark zero = omega arith
marks_le mark (suc n) = omega (arith, marks_le mark n, (mark_takes (mark n) 2 (omega arith)).1)

-- ---- the account after one view's step

-- old total and new marks and credits balance the new total and the old ones
account_step : {n : ℕ} {mark mark' : ℕ → Bool} {total total' : ℕ} {views : List View} {v : View} (s : ℕ) (w : View)
    → Account n mark total views → slice_get views s ≡ Some v
    → total' + marks_below mark n + v.credits ≡ total + marks_below mark' n + w.credits
    → (total ≡ 0 → total' ≡ 0) → HasCredits w.hand w.credits
    → (w.saw ≡ true → total' ≡ 0) → (w.share ≡ 0 → w.saw ≡ false)
    → Account n mark' total' (set views s w)
account_step {total} {total'} {views} {v} s w was at balance stays credits saw spent = record {
  balance = omega (arith, sum_replaced (λ (view : View). view.credits) views s v w at);
  credits = All-set (λ (view : View). HasCredits view.hand view.credits) views s w credits was.credits;
  saw =
      All-set (λ (view : View). view.saw ≡ true → total' ≡ 0) views s w saw
      (λ k d lt sees. stays (was.saw k d lt sees));
  spent =
      All-set (λ (view : View). view.share ≡ 0 → view.saw ≡ false) views s w spent was.spent;
}

-- what a seat saw is so
pub saw_at : {n : ℕ} {mark : ℕ → Bool} {total : ℕ} {views : List View} {s : ℕ} {v : View}
    → Account n mark total views → HasView views s v → v.saw ≡ true → total ≡ 0
saw_at {total} {views} {s} {v} was has =
    all_at (λ (view : View). view.saw ≡ true → total ≡ 0) views s v was.saw has.here

-- the credits of a seat fit its hand
pub credits_at : {n : ℕ} {mark : ℕ → Bool} {total : ℕ} {views : List View} {s : ℕ} {v : View} {hand : Hand}
    → Account n mark total views → HasView views s v → v.hand ≡ hand → HasCredits hand v.credits
credits_at {views} {s} {v} was has e =
    subst (λ (h : Hand). HasCredits h v.credits) e
    (all_at (λ (view : View). HasCredits view.hand view.credits) views s v was.credits has.here)

-- a step that changes neither what the seat saw nor its share
live_step : {n : ℕ} {mark mark' : ℕ → Bool} {total total' : ℕ} {views : List View} {s : ℕ} {v : View} (w : View)
    → Account n mark total views → HasView views s v → w.saw ≡ v.saw → w.share ≡ v.share
    → total' + marks_below mark n + v.credits ≡ total + marks_below mark' n + w.credits
    → (total ≡ 0 → total' ≡ 0) → HasCredits w.hand w.credits
    → Account n mark' total' (set views s w)
live_step {s} w was has saw share balance stays credits =
    account_step s w was has.here balance stays credits (λ sees. stays (saw_at was has (sym saw ∙ sees)))
    (λ none. absurd (has.live (sym share ∙ none)))

-- a hand without a vertex has room for one credit more
room_for_one : (hand : Hand) (credits : ℕ) → has_no_vertex hand ≡ true → HasCredits hand credits → credits ≤ 254
room_for_one Idle credits is own = omega arith
room_for_one Kept credits is own = own.1
room_for_one other credits is own = cc

pub taking : TakingKeepsAccount
taking n mark mark' total views s u v was has free vertex unset agree =
    let own = credits_at was has refl in
    let room = room_for_one v.hand v.credits free own in
    let count = rw unset at (marks_but mark mark' n u vertex agree) in
    elim (cases_Bool (mark u)) [
      | inl set' ↦
          let one = rw set' at count in
          rw set' (live_step (taken true u v) was has refl refl (omega arith) (λ e. e) (omega arith, omega arith))
      | inr unset' ↦
          let same = rw unset' at count in
          rw unset' (live_step (taken false u v) was has refl refl (omega arith) (λ e. e) own)
    ]

pub reading : ReadingKeepsAccount
reading n mark total views s d k v was has fresh =
    live_step (opened d k v) was has refl refl (omega arith) (λ e. e) (credits_at was has fresh)

pub relaxing : RelaxingKeepsAccount
relaxing n mark total views s fell head v was has held =
    live_step (went_along fell head v) was has refl refl (omega arith) (λ e. e)
    (elim (cases_Bool fell) [
      | inl lowered ↦ rw lowered (credits_at was has held)
      | inr kept ↦ rw kept (credits_at was has held)
    ])

-- where a seat has credits the total isn't 0
pub total_above : {n : ℕ} {mark : ℕ → Bool} {total : ℕ} {views : List View} {s : ℕ} {v : View}
    → Account n mark total views → HasView views s v → v.credits ≤ total
total_above {views} {s} {v} was has =
    omega (arith, sum_replaced (λ (view : View). view.credits) views s v (idle_view 0) has.here, was.balance)

pub raising : RaisingKeepsAccount
raising n mark total views s v was has owe one =
    let above = total_above was has in
    live_step (raised v) was has refl refl (omega arith) (λ e. absurd (omega arith))
    (rw owe (omega arith, omega arith))

pub raising_by : RaisingByKeepsAccount
raising_by n mark total views s count v was has owe room =
    let above = total_above was has in
    let own = credits_at was has owe in
    live_step (raised_by count v) was has refl refl (omega arith) (λ e. absurd (omega (arith, own.0)))
    (rw owe (omega (arith, own.0), room))

pub marking : MarkingKeepsAccount
marking n mark mark' total views s v was has owe two vertex now' agree =
    let head = owed_of v.hand in
    let count = rw now' at (marks_but mark mark' n head vertex agree) in
    let takes = mark_takes (mark head) v.credits two in
    let own = credits_at was has owe in
    live_step (marked (mark head) v) was has refl refl (omega (arith, takes.0, count)) (λ e. e)
    (takes.2, omega (arith, takes.3, own.1))

pub finishing : FinishingKeepsAccount
finishing n mark total total' views s v was has less =
    live_step (finished v) was has refl refl (omega arith) (λ e. omega arith) refl

pub keeping : KeepingKeepsAccount
keeping n mark total views s v was has held room =
    live_step (kept v) was has refl refl (omega arith) (λ e. e) ((credits_at was has held).0, room)

-- what is left of kept credits fits the hand that it leaves
rest_fits : (credits count : ℕ) → credits ≤ 254 → count ≤ credits
    → HasCredits (cond {A = Hand} (credits == count) Idle Kept) (credits - count)
rest_fits credits count most some =
    elim (cases_Bool (credits == count)) [
      | inl all ↦ rw all (omega (arith, eqb-true credits count all))
      | inr less ↦ rw less (omega (arith, eqb-false credits count less), omega arith)
    ]

pub returning : ReturningKeepsAccount
returning n mark total total' views s count v was has held some less =
    live_step (gave_back count v) was has refl refl (omega arith) (λ e. omega arith)
    (rest_fits v.credits count (credits_at was has held).1 some)

pub seeing : SeeingKeepsAccount
seeing n mark total views s v was has =
    account_step s (looked (total == 0) v) was has.here (omega arith) (λ e. e) (credits_at was has refl)
    (λ sees. elim (or_cases v.saw (total == 0) sees) [
      | inl before ↦ saw_at was has before
      | inr zero' ↦ eqb-true total 0 zero'
    ])
    (λ none. absurd (has.live none))

pub splitting : SplittingKeepsAccount
splitting n mark total views s v was has idle =
    let rest = set views s (kept_half v) in
    let one : Account n mark total rest =
    account_step s (kept_half v) was has.here (omega arith) (λ e. e) (credits_at was has refl)
    (saw_at was has) (λ spent. absurd (has.live (omega arith))) in
    record {
      balance = omega (arith, sum_by_push (λ (view : View). view.credits) rest (new_half v), one.balance);
      credits = All-push (λ (view : View). HasCredits view.hand view.credits) rest (new_half v) one.credits refl;
      saw = All-push (λ (view : View). view.saw ≡ true → total ≡ 0) rest (new_half v) one.saw (λ sees. cc);
      spent = All-push (λ (view : View). view.share ≡ 0 → view.saw ≡ false) rest (new_half v) one.spent
          (λ e. refl);
    }

pub joining : JoiningKeepsAccount
joining n mark total views s t v w was has has' apart idle idle' =
    let none' : w.credits ≡ 0 = credits_at was has' idle' in
    let one : Account n mark total (set views s (joined v w)) =
    account_step s (joined v w) was has.here (omega arith) (λ e. e) (credits_at was has refl)
    (λ sees. elim (or_cases v.saw w.saw sees) [
      | inl mine ↦ saw_at was has mine
      | inr theirs ↦ saw_at was has' theirs
    ])
    (λ spent. absurd (has.live (omega arith))) in
    account_step t (idle_view 0) one (other_seat views s t w (joined v w) apart has'.here) (omega arith) (λ e. e)
    refl (λ sees. cc) (λ e. refl)
