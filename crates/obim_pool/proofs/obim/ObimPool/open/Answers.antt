-- Each mirror has its own side, and there are no more of them than workers.
use Rattle.std.proofs.Common.{◌∙◌, ap, arith, length, map, sym}
use Rattle.std.proofs.lemmas.List.{length-replicate, map-id}
use Rattle.std.proofs.lemmas.Iterator.Adapters.{YieldsList-from_vec}
use Rattle.std.proofs.lemmas.Iterator.Consumers.{YieldsList-end, YieldsList-turn}
use Rattle.obim_bags.specs.Logs.{new_mirror}
use Rattle.obim_pool.proofs.Popping.{side_over, sides_over}
use Rattle.obim_pool.proofs.obim.ObimPool.open.Goals as goal

pub returns : goal.returns
returns c =
    let gives = c.into_iter-mirror-iterator.ensures.into_iter_gives in
    let list = YieldsList-from_vec {s = c.into_iter-mirror-iterator.result} c.in_ok-log.mirrors.items gives.0
    (gives.1 ∙ c.in_ok-log.mirrors.ok.0) in
    let all = YieldsList-end list c.loop-mirror.yielded c.loop-mirror.mirror-iterator c.loop-mirror.yielded_by
    c.next.result c.next.new.self c.in-None.is c.next.ensures.steps in
    let yielded = sym (map-id c.loop-mirror.yielded) ∙ (all.0 ∙ c.in_ok-log.ensures) in
    c.loop-mirror.invariant.sides ∙ (ap (map side_over) yielded ∙ sides_over c.args.workers c.in_ok-log.log)

pub overflow_add-worker : goal.overflow_add-worker
overflow_add-worker c =
    let gives = c.into_iter-mirror-iterator.ensures.into_iter_gives in
    let list = YieldsList-from_vec {s = c.into_iter-mirror-iterator.result} c.in_ok-log.mirrors.items gives.0
    (gives.1 ∙ c.in_ok-log.mirrors.ok.0) in
    let turn = YieldsList-turn list c.loop-mirror.yielded c.loop-mirror.mirror-iterator c.loop-mirror.yielded_by
    c.next.result c.next.new.self c.in-Some.mirror c.in-Some.is c.next.ensures.steps in
    let count = ap length c.in_ok-log.ensures ∙ length-replicate c.args.workers (new_mirror c.in_ok-log.log) in
    omega (arith, turn.0, count, c.loop-mirror.invariant.worker, c.ranges.workers.fits)
