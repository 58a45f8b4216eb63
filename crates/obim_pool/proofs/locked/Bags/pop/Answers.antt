-- Either the lowest bag keeps a vertex, or it leaves with its only one.
use Rattle.std.proofs.Common.{◌≡◌, ℕ, List, [], ◌∷◌, length, get_or, refl, sym, ap, vec_len, arith}
use Rattle.obim_pool.proofs.Changes.{SetsBag-get_mut, none_empty-rest, count-rest}
use Rattle.obim_pool.proofs.Changes.{first_is_seen, found_not_empty, takes_first}
use Rattle.obim_pool.proofs.locked.Bags.pop.Goals as goal
use Rattle.obim_pool.proofs.locked.Bags.pop.Goals.{In_ok-bag}

pub invariant_of-self-then-len-gt1 : goal.invariant_of-self-then-len-gt1
invariant_of-self-then-len-gt1 c =
    let old = c.args.self.now in
    let new = c.get_mut.follows.lender c.pop.new.self in
    let bag = c.in_ok-get_mut.field-0.now in
    let found = c.in_ok-get_mut.ensures.value in
    let seen : bag ≡ c.in_ok-metric.bag.now = cc (c.in_ok-metric.ensures.value, found) in
    let long = ap (λ b. vec_len b) seen in
    let less = c.in_ok-last.ensures.len in
    let writes = c.get_mut.follows.holds c.pop.new.self in
    let set = SetsBag-get_mut old.by_metric new c.in_ok-metric.field-0-0.now bag c.pop.new.self found writes in
    record {
      none_empty = set.none_empty old.none_empty (omega (arith, c.len.ensures));
      total_is = omega (arith, old.total_is);
    }

-- a bag that leaves has one vertex
has_one : (c : In_ok-bag) → vec_len c.in_ok-bag.bag ≡ 1
has_one c =
    let old = c.args.self.now in
    let first = c.in_ok-bag.ensures in
    let seen = first_is_seen old.by_metric c.pop_first.new.self _ _ first.removal c.in_ok-metric.ensures.first in
    let same = ap (λ e. vec_len e.1) seen in
    let some = found_not_empty old.by_metric _ c.in_ok-bag.bag old.none_empty (sym first.value) in
    omega (arith, c.len.ensures)

pub invariant_of-self-2 : goal.invariant_of-self-2
invariant_of-self-2 c =
    let old = c.args.self.now in
    let new = c.pop_first.new.self in
    let split = c.in_ok-bag.ensures.removal in
    let one = has_one (goal.at.invariant_of-self-2 c).In_ok-bag in
    let less = count-rest old.by_metric new _ split in
    record {
      none_empty = none_empty-rest old.by_metric new _ split old.none_empty;
      total_is = omega (arith, old.total_is, one);
    }

only_one : (xs : List ℕ) → length xs ≡ 1 → xs ≡ get_or xs 0 0 ∷ []
only_one (x ∷ []) _ = refl
only_one [] one = absurd (omega arith)
only_one (x ∷ y ∷ xs) one = absurd (omega arith)

pub returns-clause-lowest : goal.returns-clause-lowest
returns-clause-lowest c =
    let first = c.in_ok-bag.ensures in
    let one = has_one (goal.at.returns-clause-lowest c).In_ok-bag in
    let only = only_one c.in_ok-bag.bag.items (omega arith) in
    let old = c.args.self.now.by_metric in
    let takes = takes_first old c.pop_first.new.self _ _ _ first.least first.value first.updates only in
    rw (c.pop-2.ensures.value 0 (omega arith), one) takes
