use Rattle.relax_core.proofs.Closing.{quiet_is_settled, zero_is_least}
use Rattle.relax_core.proofs.laws.closing.Goals as goal

pub returns : goal.returns
returns c = record { settled = quiet_is_settled; least = zero_is_least }
