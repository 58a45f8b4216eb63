use Rattle.std.proofs.Common.{rules}
use Rattle.obim_query.proofs.serve.Goals as goal

pub returns-in-Err : goal.returns-in-Err
returns-in-Err g c = search rules
