use Rattle.std.proofs.Common.{[], refl}
use Rattle.least_costs.proofs.Facts.{none_removed}
use Rattle.session_answer.proofs.change.Change.removed.Goals as goal

pub returns-in-None : goal.returns-in-None
returns-in-None c arcs = rw c.in-None.is (none_removed [] arcs refl)
