-- A call on one place of a list.
use Rattle.std.proofs.Common.{◌≡◌, ap, ℕ, ◌<◌, List, length, set, get_or, Some}
use Rattle.std.specs.Prelude.{slice_get}
use Rattle.obim_bags.specs.Logs.{ChangesAccess, AccessSeen, bags_in}
use Rattle.obim_bags.proofs.Listed.{found_at, map_kept}

-- the place that was read, and what stands there after the call
pub record IsCalledAt (place : ℕ) (list : List AccessSeen) (was now : AccessSeen) : Type 0 where
  pub here : slice_get list place ≡ Some was
  pub bag : now.bag ≡ was.bag

pub called_at : {place : ℕ} {was now : AccessSeen} (list : List AccessSeen) → place < length list
    → was ≡ get_or list place was
    → now.bag ≡ was.bag → IsCalledAt place list was now
called_at {place} {was} list within is bag = record { here = found_at list place was within is; bag = bag }

pub bags_stay : {place : ℕ} {list : List AccessSeen} {was now : AccessSeen} → IsCalledAt place list was now
    → bags_in (set list place now) ≡ bags_in list
bags_stay {place} {list} {was} {now} at = map_kept (λ (p : AccessSeen). p.bag) list place was now at.here at.bag

pub changed : {place : ℕ} {list : List AccessSeen} {was now : AccessSeen} (change : AccessSeen → AccessSeen)
    → IsCalledAt place list was now
    → now ≡ change was → ChangesAccess place change list (set list place now)
changed {place} {list} {was} change at is = (was, at.here, ap (set list place) is)
