-- A bag was found empty once or twice.
use Rattle.std.proofs.Common.{◌≡◌, ⊎_elim, inl, inr, subst, ℕ, arith}
use Rattle.std.specs.Prelude.{◌⊎◌}
use Rattle.std.proofs.lemmas.Bool.{cases_eq}
use Rattle.obim_pool.specs.Accounts.{FindsMore}
use Rattle.obim_pool.specs.Sides.{FoundEmptyAt, SideSeen, account_at}
use Rattle.obim_bags.proofs.Facts.{none_then}
use Rattle.worklist_tests.proofs.pools.callers.pop_in_vain.Goals as goal

once_or_twice : (place : ℕ) (old new : SideSeen) → FoundEmptyAt place old new
    → FindsMore 1 (account_at place old) (account_at place new) ⊎ FindsMore 2 (account_at place old)
    (account_at place new)
once_or_twice place old new found =
    let Finds = λ (count : ℕ). FindsMore count (account_at place old) (account_at place new) in
    ⊎_elim
    (λ (one : found.count ≡ 1). inl (subst Finds one found.finds))
    (λ other.
    let two : found.count ≡ 2 = omega (arith, other, found.some, found.few) in
    inr (subst Finds two found.finds))
    (cases_eq found.count 1)

pub returns-clause-counted : goal.returns-clause-counted
returns-clause-counted g c =
    none_then _ _ c.pop.result
    (λ none place within. once_or_twice place c.args.side.now c.pop.new.side (none.found place within))
    c.pop.ensures.none
