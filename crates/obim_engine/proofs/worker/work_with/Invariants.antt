use Rattle.std.proofs.Common.{◌≡◌, ◌<◌, None, false}
use Rattle.label_words.specs.Callers.{Stays}
use Rattle.label_words.specs.Known.{HasNoVertex}
use Rattle.obim_engine.proofs.worker.work_with.Given as goal

abbrev pub invariant-loop : goal.invariant-loop
invariant-loop g l =
    Stays l.fn.seat l.seat
    × HasNoVertex l.seat
    × (l.shared.run.budget ≡ None → l.budget.has_limit ≡ false)
    × (0 < l.monitor.left)
    × g.P.WorkPool.is_side l.shared.run.pool.now l.side
