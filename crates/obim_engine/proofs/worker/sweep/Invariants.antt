use Rattle.std.proofs.Common.{◌≡◌}
use Rattle.label_words.specs.Callers.{Stays}
use Rattle.label_words.specs.Known.{HasNoVertex}
use Rattle.obim_engine.proofs.worker.sweep.Given as goal

abbrev pub invariant-loop-v : goal.invariant-loop-v
invariant-loop-v g l =
    Stays l.fn.seat l.seat
    × HasNoVertex l.seat
    × (l.budget.has_limit ≡ l.fn.budget.has_limit)
    × g.P.WorkPool.is_side l.shared.run.pool.now l.side
