use Rattle.relax_core.proofs.Along as along
use Rattle.relax_core.proofs.Accounts as account
use Rattle.relax_core.proofs.laws.relaxing.Goals as goal

pub returns : goal.returns
returns c = record { cover = along.relaxing; account = account.relaxing; attained = along.lowering_attains }
