use Rattle.std.proofs.Common.{rules}
use Rattle.obim_engine.proofs.worker.work_with.Goals as goal

pub returns-then-is_over-clause-seat : goal.returns-then-is_over-clause-seat
returns-then-is_over-clause-seat g c = search rules
