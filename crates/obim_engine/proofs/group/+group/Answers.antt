use Rattle.std.proofs.Common.{rules}
use Rattle.obim_engine.proofs.group.+group.Goals as goal

pub returns-clause-seat : goal.returns-clause-seat
returns-clause-seat g t c = search rules
