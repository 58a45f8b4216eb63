-- What the mirror keeps begins the list in the slot.
use Rattle.std.proofs.Common.{refl}
use Rattle.obim_bags.proofs.Ties.{accesses_begin, index_begins}
use Rattle.obim_bags.proofs.log.BagLog.catch_up.Goals as goal

pub catch_up-caught-requires-clause-index : goal.catch_up-caught-requires-clause-index
catch_up-caught-requires-clause-index g c = index_begins _ _ _ c.mirror.invariant.index c.take-entries.ensures.within

pub invariant_of-mirror : goal.invariant_of-mirror
invariant_of-mirror g c =
    let caught = c.catch_up-caught.ensures in
    let longer = rw (← caught.entries) at c.take-entries.ensures.within.list in
    rw c.give.ensures.me (record {
      slots = refl;
      holds = refl;
      list = accesses_begin c.catch_up-caught.result _ _ _ _ c.mirror.invariant.list longer caught.bags caught.refused;
      index = caught.index;
      distinct = caught.distinct;
    })
