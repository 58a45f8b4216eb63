-- What was drained, by place, is what the passes of the mirrors left.
use Rattle.std.proofs.Common.{◌≡◌, ◌∙◌, ◌+◌, List, length, reverse, arith}
use Rattle.std.specs.declared.vec.Vec.{Vec}
use Rattle.std.specs.declared.alloc.Global.{Global}
use Rattle.std.proofs.lemmas.List.{length-map, length-reverse}
use Rattle.std.proofs.lemmas.Result.{IfOk-weaker}
use mathlib.Core.List.{IsPrefix}
use Rattle.obim_bags.specs.Chunks.{ChunkSeen}
use Rattle.obim_bags.specs.Bags.{BagSeen}
use Rattle.obim_bags.specs.Indexes.{AreDistinct}
use Rattle.obim_bags.specs.Logs.{IsLogSettled, MirrorSeen, AccessSeen, all_of, bags_in, metrics_of}
use Rattle.obim_bags.specs.Entries.{bags_of}
use Rattle.obim_bags.specs.Settling.{AreDrainedFrom, AreOf, lists_of, accesses_of}
use Rattle.obim_bags.proofs.Listed.{all_mapped, all_reverse}
use Rattle.obim_bags.proofs.Totals.{passes_of_mirrors, settled_reverse}
use Rattle.obim_bags.proofs.log.BagLog.drain.Goals as goal

log_settled : (mirrors : List MirrorSeen) (bags : List BagSeen) (held : List (List AccessSeen))
    (parts : List (List ChunkSeen)) (left : List ChunkSeen)
    → AreDistinct (metrics_of bags) → AreOf bags held → held ≡ reverse (accesses_of mirrors)
    → length parts ≡ length bags
    → AreDrainedFrom 0 held parts → left ≡ all_of parts
    → IsLogSettled mirrors left
log_settled mirrors bags held parts left distinct of is count drained left_is =
    let P = λ (accesses : List AccessSeen). IsPrefix (bags_in accesses) bags in
    record {
      bags = bags;
      distinct = distinct;
      prefixes = all_mapped P (λ (mirror : MirrorSeen). mirror.accesses) mirrors
          (all_reverse P (accesses_of mirrors) (rw is at of));
      parts = parts;
      left_is = left_is;
      whole = count;
      settled = λ place part at.
          let here : 0 + place ≡ place = omega arith in
          rw (passes_of_mirrors place mirrors)
          (settled_reverse place (accesses_of mirrors) part (rw (here, is) at (drained place part at)));
    }

pub returns-clause-settled : goal.returns-clause-settled
returns-clause-settled g c =
    let bags = bags_of c.take-entries.result in
    let parts = c.in_ok-parts.field-0.items in
    let held = lists_of c.in_ok-seat.held.items in
    let count = length-reverse (lists_of parts) ∙ length-map parts (λ (v : Vec ChunkSeen Global). v.items)
    ∙ c.in_ok-parts.ensures.count in
    let distinct = rw c.in_ok-parts.ensures.bags at c.in_ok-parts.ensures.distinct in
    IfOk-weaker c.flatten.result _ _
    (λ left left_is.
    log_settled c.args.mirrors.items bags held (reverse (lists_of parts)) left.items distinct
    (c.in_ok-seat.ensures.known bags c.take-entries.ensures.within) c.in_ok-seat.ensures.held count
    c.in_ok-parts.ensures.drained left_is)
    c.flatten.ensures.parts
