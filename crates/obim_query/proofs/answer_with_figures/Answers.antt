use Rattle.std.proofs.Common.{rules}
use Rattle.obim_query.proofs.answer_with_figures.Goals as goal

pub returns : goal.returns
returns g c = search rules
