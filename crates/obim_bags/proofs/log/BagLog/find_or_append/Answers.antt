-- A mirror that has the metric stays as it is; what another keeps begins the list in the slot.
use Rattle.std.proofs.Common.{refl}
use Rattle.obim_bags.proofs.Prefixes.{prefix_trans}
use Rattle.obim_bags.proofs.Ties.{accesses_begin, gains_none, index_begins}
use Rattle.obim_bags.proofs.log.BagLog.find_or_append.Goals as goal

pub returns-in-Some-clause-gains : goal.returns-in-Some-clause-gains
returns-in-Some-clause-gains g c = gains_none _ c.place_of.ensures.distinct

pub find_or_append-found-requires-clause-index : goal.find_or_append-found-requires-clause-index
find_or_append-found-requires-clause-index g c =
    index_begins _ _ _ c.mirror.invariant.index c.take-entries.ensures.within

pub invariant_of-mirror : goal.invariant_of-mirror
invariant_of-mirror g c =
    let found = c.find_or_append-found.ensures in
    let longer = prefix_trans _ _ _ c.take-entries.ensures.within.list found.entries in
    rw c.give.ensures.me (record {
      slots = refl;
      holds = refl;
      list = accesses_begin c.find_or_append-found.result _ _ _ _ c.mirror.invariant.list longer found.bags
          found.refused;
      index = found.index;
      distinct = found.distinct;
    })
