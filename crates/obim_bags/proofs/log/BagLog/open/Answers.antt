-- The rule holds of a log without bags, and allows each new seat.
use Rattle.std.proofs.Common.{◌<◌, refl, arith}
use Rattle.obim_bags.specs.Entries.{bags_of}
use Rattle.obim_bags.proofs.LogRule.{opens, seats}
use Rattle.obim_bags.proofs.log.BagLog.open.Goals as goal

pub new-requires : goal.new-requires
new-requires c = rw (c.in_ok-slots.ensures.items, c.none.ensures) (opens bags_of _ refl)

pub load_new_seat-seat-requires : goal.load_new_seat-seat-requires
load_new_seat-seat-requires c =
    let word : 0 < c.in-Ok.table.shared.table_id.words = omega (arith, c.in-Ok.ensures.ok.0) in (word, seats bags_of _)
