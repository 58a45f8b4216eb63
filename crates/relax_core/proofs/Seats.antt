-- Lists of views, of which one is replaced or one is added.
use Rattle.std.proofs.Common.{◌≡◌, ◌≢◌, ◌∙◌, sym, ap, subst, ℕ, ◌+◌, ◌<◌, ◌≤◌, List, [], ◌∷◌, ◌++◌, ◌⊎◌, inl, inr}
use Rattle.std.proofs.Common.{Some, length, set, arith, length-set, length-append, get_or-set_other}
use Rattle.std.specs.Prelude.{All, Any, slice_get, sum_by}
use Rattle.std.proofs.lemmas.List.{get_or_append_left}
use Rattle.std.proofs.lemmas.List.Sums.{sum_by-set}
use Rattle.std.proofs.lemmas.Bool.{cases_eq}
use Rattle.std.proofs.lemmas.Option.{get_or_from_slice_get, slice_get_within, slice_get-get_or}
use Rattle.relax_core.specs.declared.views.View.{View}
use Rattle.relax_core.specs.Views.{idle_view}

-- what holds of all holds of the view of a seat
pub all_at : (P : View → Type 0) (views : List View) (s : ℕ) (v : View) → All P views → slice_get views s ≡ Some v → P v
all_at P views s v all at = subst P (get_or_from_slice_get views s v v at) (all s v (slice_get_within views s v at))

-- where some view has P, the replaced one had it or one still has it
pub any_replaced : (P : View → Type 0) (views : List View) (s : ℕ) (v w : View)
    → slice_get views s ≡ Some v → Any P views
    → P v ⊎ Any P (set views s w)
any_replaced P views s v w at any =
    elim (cases_eq any.0 s) [
      | inl same ↦ inl (rw (← get_or_from_slice_get views s v any.1 at, ← same, any.3) any.4)
      | inr other ↦
          let lt : any.0 < length (set views s w) = omega (arith, any.2, length-set views s w) in
          inr (any.0, any.1, lt, get_or-set_other views s any.0 w any.1 other ∙ any.3, any.4)
    ]

-- where some element has P, and P says Q, some element has Q when one more is added
pub any_added : {X : Type 0} (P Q : X → Type 0) (xs : List X) (new : X) → ((x : X) → P x → Q x) → Any P xs
    → Any Q (xs ++ new ∷ [])
any_added P Q xs new says any =
    let lt : any.0 < length xs = any.2 in
    let more : any.0 < length (xs ++ new ∷ []) = omega (arith, length-append xs (new ∷ [])) in
    (any.0, any.1, more, get_or_append_left xs (new ∷ []) any.1 any.0 lt ∙ any.3, says any.1 any.4)

-- a sum over views, of which one is replaced
pub sum_replaced : (f : View → ℕ) (views : List View) (s : ℕ) (v w : View) → slice_get views s ≡ Some v
    → sum_by f (set views s w) + f v ≡ sum_by f views + f w
sum_replaced f views s v w at =
    rw (get_or_from_slice_get views s v v at) at (sum_by-set f views s w v (slice_get_within views s v at))

-- the view of another seat stays
pub other_seat : (views : List View) (s t : ℕ) (v w : View)
    → s ≢ t → slice_get views t ≡ Some v
    → slice_get (set views s w) t ≡ Some v
other_seat views s t v w apart at =
    let within : t < length views = slice_get_within views t v at in
    let lt : t < length (set views s w) = omega (arith, length-set views s w) in
    slice_get-get_or (set views s w) t v lt
    ∙ ap Some (get_or-set_other views s t w v (λ e. apart (sym e)) ∙ get_or_from_slice_get views t v v at)

-- the shares of two seats are no more than all shares
pub two_shares : (views : List View) (s t : ℕ) (v w : View)
    → slice_get views s ≡ Some v → slice_get views t ≡ Some w → s ≢ t
    → v.share + w.share ≤ sum_by (λ view. view.share) views
two_shares views s t v w at at' apart =
    let there = other_seat views s t w (idle_view 0) apart at' in
    let one = sum_replaced (λ (view : View). view.share) views s v (idle_view 0) at in
    let two = sum_replaced (λ (view : View). view.share) (set views s (idle_view 0)) t w (idle_view 0) there in
    omega (arith, one, two)
