use Rattle.relax_core.proofs.Closing.{total_is_bounded}
use Rattle.relax_core.proofs.laws.bound.Goals as goal

pub returns : goal.returns
returns c = total_is_bounded
