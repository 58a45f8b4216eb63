-- The passes that were still here put and got nothing.
use Rattle.std.proofs.lemmas.Result.{IfOk-weaker}
use Rattle.obim_bags.proofs.Totals.{settled_of_some}
use Rattle.obim_bags.proofs.entries.LogEntry.drain.Goals as goal

pub returns-clause-settled : goal.returns-clause-settled
returns-clause-settled g c =
    IfOk-weaker c.drain.result _ _
    (λ left settled. settled_of_some _ _ _ left.items c.in_ok-claim_all.ensures.added settled)
    c.drain.ensures.settled
