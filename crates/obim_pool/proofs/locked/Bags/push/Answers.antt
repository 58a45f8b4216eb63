-- A bag begins with one vertex, stays as it is where memory is refused, or gets one more.
use Rattle.std.proofs.Common.{arith}
use Rattle.obim_pool.proofs.Changes.{SetsBag-get_mut, SetsBag-insert, found_not_empty}
use Rattle.obim_pool.proofs.locked.Bags.push.Goals as goal

pub invariant_of-self-in_default : goal.invariant_of-self-in_default
invariant_of-self-in_default c =
    let old = c.args.self.now in
    let same = c.get_mut.follows.holds-at-none in
    let absent = c.in_default.ensures.value in
    let ordered = rw same at c.insert.ensures.was_ordered in
    let inserted = rw same at c.in_ok-insert.ensures.entries in
    let one = c.in_ok-bag.ensures.len in
    let set = SetsBag-insert old.by_metric c.insert.new.self c.args.metric c.in_ok-bag.bag absent ordered inserted in
    record {
      none_empty = set.none_empty old.none_empty (omega arith);
      total_is = omega (arith, old.total_is);
    }

pub invariant_of-self-in-Break-branch-4 : goal.invariant_of-self-in-Break-branch-4
invariant_of-self-in-Break-branch-4 c =
    let old = c.args.self.now in
    let new = c.get_mut.follows.lender c.push.new.self in
    let bag = c.in-Some.bag.now in
    let found = c.in-Some.ensures.value in
    let some = found_not_empty old.by_metric c.args.metric bag old.none_empty found in
    let same = c.in_err-push.ensures.len in
    let writes = c.get_mut.follows.holds c.push.new.self in
    let set = SetsBag-get_mut old.by_metric new c.args.metric bag c.push.new.self found writes in
    record {
      none_empty = set.none_empty old.none_empty (omega arith);
      total_is = omega (arith, old.total_is);
    }

pub invariant_of-self-2 : goal.invariant_of-self-2
invariant_of-self-2 c =
    let old = c.args.self.now in
    let new = c.get_mut.follows.lender c.push.new.self in
    let bag = c.in-Some.bag.now in
    let found = c.in-Some.ensures.value in
    let more = c.in_ok-push.ensures.len in
    let writes = c.get_mut.follows.holds c.push.new.self in
    let set = SetsBag-get_mut old.by_metric new c.args.metric bag c.push.new.self found writes in
    record {
      none_empty = set.none_empty old.none_empty (omega arith);
      total_is = omega (arith, old.total_is);
    }
